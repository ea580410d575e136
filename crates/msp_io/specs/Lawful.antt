-- Sources and sinks of which all is said by what contracts see of them keep the laws.
use Rattle.std.proofs.Common.{◌≡◌, ℕ, ◌^◌, ◌<◌, List, [], ◌++◌, length, Option, Some, None, refl, ◌∙◌, ap, arith}
use Rattle.std.proofs.lemmas.List.{length-append}
use Rattle.std.proofs.KnownBytes.{Consumes-nil, Consumes-trans, Appends-nil, Appends-trans}
use Rattle.msp_io.specs.Faults.{Rose, WentUp, one_more, so_many_more}
use Rattle.msp_io.specs.Views.{SourceView, SinkView}
use Rattle.msp_io.specs.Sources.{Gives, GivesAll, GivesAndFails, KeepsLaws}
use Rattle.msp_io.specs.Sinks.{Takes, TakesAndFails, KeepsLaws as KeepsSinkLaws}
use Rattle.msp_io.specs.StdAdapters.{source_given, source_view, SourceGave, SourceFinished, SourceBroke, sink_taken, sink_view, SinkTook, SinkBroke}
use Rattle.msp_io.specs.declared.std_io.StdSource.{StdSource}
use Rattle.msp_io.specs.declared.std_io.StdSink.{StdSink}

-- a count of 64 bits, where there is one
abbrev pub Fits : Option ℕ → Type 0
Fits None = Unit {0}
Fits (Some count) = count < 2 ^ 64

no_more : (count : ℕ) → count < 2 ^ 64 → count ≡ so_many_more count 0
no_more count fits = omega (arith, fits)

WentUp-none : (a : Option ℕ) → Fits a → WentUp a a 0
WentUp-none None fits = tt
WentUp-none (Some count) fits = no_more count fits

up_twice : (a b c : ℕ) (xs ys : List ℕ) → b ≡ so_many_more a (length xs) → c ≡ so_many_more b (length ys) → c ≡ so_many_more a (length (xs ++ ys))
up_twice a b c xs ys first more = omega (arith, first, more, length-append xs ys)

WentUp-trans : (a b c : Option ℕ) (xs ys : List ℕ) → WentUp a b (length xs) → WentUp b c (length ys) → WentUp a c (length (xs ++ ys))
WentUp-trans None b c xs ys first more = tt
WentUp-trans (Some a) None c xs ys first more = absurd first
WentUp-trans (Some a) (Some b) None xs ys first more = absurd more
WentUp-trans (Some a) (Some b) (Some c) xs ys first more = up_twice a b c xs ys first more

Rose-behind : (a b c : ℕ) → b ≡ a → Rose b c → Rose a c
Rose-behind a b c same rose = rw same at rose

Gives-none : (a : SourceView) → Fits a.given → Gives a a []
Gives-none a fits = record { left = Consumes-nil a.left; given = WentUp-none a.given fits; faults = refl }

Gives-more : (a b c : SourceView) (xs ys : List ℕ) → Gives a b xs → Gives b c ys → Gives a c (xs ++ ys)
Gives-more a b c xs ys first more = record {
  left = Consumes-trans a.left b.left c.left xs ys first.left more.left;
  given = WentUp-trans a.given b.given c.given xs ys first.given more.given;
  faults = more.faults ∙ first.faults;
}

GivesAll-more : (a b c : SourceView) (xs ys : List ℕ) → Gives a b xs → GivesAll b c ys → GivesAll a c (xs ++ ys)
GivesAll-more a b c xs ys first more = record { gives = Gives-more a b c xs ys first more.gives; end = more.end }

GivesAndFails-more : (a b c : SourceView) (xs ys : List ℕ) → Gives a b xs → GivesAndFails b c ys → GivesAndFails a c (xs ++ ys)
GivesAndFails-more a b c xs ys first more = record {
  left = Consumes-trans a.left b.left c.left xs ys first.left more.left;
  given = WentUp-trans a.given b.given c.given xs ys first.given more.given;
  failed = Rose-behind a.faults b.faults c.faults first.faults more.failed;
}

Takes-none : (a : SinkView) → Fits a.taken → Takes a a []
Takes-none a fits = record { held = Appends-nil a.held; taken = WentUp-none a.taken fits; faults = refl }

Takes-more : (a b c : SinkView) (xs ys : List ℕ) → Takes a b xs → Takes b c ys → Takes a c (xs ++ ys)
Takes-more a b c xs ys first more = record {
  held = Appends-trans a.held b.held c.held xs ys first.held more.held;
  taken = WentUp-trans a.taken b.taken c.taken xs ys first.taken more.taken;
  faults = more.faults ∙ first.faults;
}

TakesAndFails-more : (a b c : SinkView) (xs ys : List ℕ) → Takes a b xs → TakesAndFails b c ys → TakesAndFails a c (xs ++ ys)
TakesAndFails-more a b c xs ys first more = record {
  held = Appends-trans a.held b.held c.held xs ys first.held more.held;
  taken = WentUp-trans a.taken b.taken c.taken xs ys first.taken more.taken;
  failed = Rose-behind a.faults b.faults c.faults first.faults more.failed;
}

-- a source that moves its bytes as it is seen to
pub source_laws : {S : Type 0} (seen : S → SourceView) → ((s : S) → Fits (seen s).given) →
    KeepsLaws seen (λ a b xs. Gives (seen a) (seen b) xs) (λ a b xs. GivesAll (seen a) (seen b) xs) (λ a b xs. GivesAndFails (seen a) (seen b) xs)
source_laws seen fits = record {
  none = λ a. Gives-none (seen a) (fits a);
  joined = λ a b c. Gives-more (seen a) (seen b) (seen c);
  joined_end = λ a b c. GivesAll-more (seen a) (seen b) (seen c);
  joined_fault = λ a b c. GivesAndFails-more (seen a) (seen b) (seen c);
  gives = λ a b xs h. h;
  finishes = λ a b xs h. h;
  breaks = λ a b xs h. h;
}

-- a sink that moves its bytes as it is seen to
pub sink_laws : {K : Type 0} (seen : K → SinkView) → ((s : K) → Fits (seen s).taken) →
    KeepsSinkLaws seen (λ a b xs. Takes (seen a) (seen b) xs) (λ a b xs. TakesAndFails (seen a) (seen b) xs)
sink_laws seen fits = record {
  none = λ a. Takes-none (seen a) (fits a);
  joined = λ a b c. Takes-more (seen a) (seen b) (seen c);
  joined_fault = λ a b c. TakesAndFails-more (seen a) (seen b) (seen c);
  takes = λ a b xs h. h;
  breaks = λ a b xs h. h;
}

-- the adapter of a reader of std, which counts the ends that it meets
pub std_source_laws : {R : Type 0} (remaining : R → Option (List ℕ)) → ((s : StdSource R) → source_given s < 2 ^ 64) →
    KeepsLaws (source_view remaining) (SourceGave remaining) (SourceFinished remaining) (SourceBroke remaining)
std_source_laws remaining fits = let laws = source_laws (source_view remaining) fits in record {
  none = λ a. record { gives = laws.none a; ends = refl };
  joined = λ a b c xs ys first more. record { gives = laws.joined a b c xs ys first.gives more.gives; ends = more.ends ∙ first.ends };
  joined_end = λ a b c xs ys first more. record {
    gives_all = laws.joined_end a b c xs ys first.gives more.gives_all;
    last = more.last;
    ends = more.ends ∙ ap one_more first.ends;
  };
  joined_fault = λ a b c xs ys first more. record {
    breaks = laws.joined_fault a b c xs ys first.gives more.breaks;
    last = more.last;
    faults = more.faults ∙ ap one_more first.gives.faults;
    ends = more.ends ∙ first.ends;
  };
  gives = λ a b xs h. h.gives;
  finishes = λ a b xs h. h.gives_all;
  breaks = λ a b xs h. h.breaks;
}

-- the adapter of a writer of std
pub std_sink_laws : {W : Type 0} (contents : W → Option (List ℕ)) → ((s : StdSink W) → sink_taken s < 2 ^ 64) →
    KeepsSinkLaws (sink_view contents) (SinkTook contents) (SinkBroke contents)
std_sink_laws contents fits = let laws = sink_laws (sink_view contents) fits in record {
  none = laws.none;
  joined = laws.joined;
  joined_fault = λ a b c xs ys first more. record {
    breaks = laws.joined_fault a b c xs ys first more.breaks;
    last = more.last;
    faults = more.faults ∙ ap one_more first.faults;
  };
  takes = laws.takes;
  breaks = λ a b xs h. h.breaks;
}
