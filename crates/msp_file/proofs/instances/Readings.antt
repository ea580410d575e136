-- The lines of an instance are read in one way, and functions that read go on as the definitions say.
use Rattle.std.proofs.Common.{◌≡◌, ℕ, true, false, List, Result, Ok, Err, refl, sym, ap, ◌∙◌}
use Rattle.msp_class.specs.declared.class.Class.{Class}
use Rattle.msp_class.specs.declared.sizes.TheConstants.{GREATEST_MULTIPLE}
use Rattle.msp_grammar.specs.lines.Answers.{Fails}
use Rattle.msp_grammar.specs.declared.lines.fault.FileFault.{FileFault}
use Rattle.msp_grammar.specs.declared.lines.fault.FileFault.TheVariants.{Memory, Limit}
use Rattle.msp_grammar.specs.declared.lines.fault.What.TheVariants as what
use Rattle.msp_file.specs.declared.instance.draft.Draft.{Draft}
use Rattle.msp_grammar.specs.declared.filed.Filed.{Filed}
use Rattle.msp_grammar.specs.lines.Reading.{◌>>=◌, Place, front_of}
use Rattle.msp_file.specs.instance.Reading.{speeds_at, has_multiple, timed_from, speeds_from, lines_at, start_of, front_at, Reads, ReadsFront, filed_of}

pub reads_same : (b : List ℕ) (r s : Result Filed FileFault) → Reads b r → Reads b s → r ≡ s
reads_same b r s h k = sym h ∙ k

pub front_same : (b : List ℕ) (r s : Result Filed FileFault) → ReadsFront b r → ReadsFront b s → r ≡ s
front_same b r s h k = sym h ∙ k

-- ---- functions that read

pub front_fails : (b : List ℕ) (e : FileFault) → Fails e (lines_at (start_of b)) → Fails e (front_at b)
front_fails b Memory h = tt
front_fails b e h = ap (λ r. r >>= front_of) h

pub front_done : (b : List ℕ) (f : Filed) (q : Place) → lines_at (start_of b) ≡ Ok (f, q) → ReadsFront b (Ok f)
front_done b f q h = ap (λ r. r >>= front_of) h

-- the speeds, and the time after them
pub speeds_refused : (c : Class) (machines : ℕ) (p q : Place) (speeds : List ℕ)
    → speeds_at c.env machines p ≡ Ok (speeds, q) → has_multiple GREATEST_MULTIPLE speeds ≡ false → speeds_from c machines p ≡ Err (Limit p.at what.Multiple)
unfolding speeds_from
speeds_refused c machines p q speeds h none = rw (h, none) refl

pub speeds_stopped : (c : Class) (machines : ℕ) (p q : Place) (speeds : List ℕ) (e : FileFault)
    → speeds_at c.env machines p ≡ Ok (speeds, q) → has_multiple GREATEST_MULTIPLE speeds ≡ true → Fails e (timed_from c machines q) → Fails e (speeds_from c machines p)
unfolding speeds_from
speeds_stopped c machines p q speeds Memory h small f = tt
speeds_stopped c machines p q speeds e h small f = rw (h, small, f) refl

pub speeds_done : (c : Class) (machines : ℕ) (p q after : Place) (speeds : List ℕ) (d : Draft) (f : Filed) → speeds_at c.env machines p ≡ Ok (speeds, q)
    → has_multiple GREATEST_MULTIPLE speeds ≡ true → timed_from c machines q ≡ Ok (d, after) → f ≡ filed_of c machines speeds d → speeds_from c machines p ≡ Ok (f, after)
unfolding speeds_from
speeds_done c machines p q after speeds d f h small timed is = rw (h, small, timed, is) refl
