-- The three texts round the bars.
use Rattle.std.proofs.Common.{◌≡◌, ℕ, List, [], ◌∷◌, refl, sym, Bool, true, false, Err, cond}
use Rattle.std.specs.List.{onto_first}
use Rattle.msp_name.specs.declared.fault.NameFault.TheVariants.{Bars}
use Rattle.msp_name.specs.Names.{bar}
use Rattle.msp_name.specs.Reading.{parts, parts_read, fields_read, reading_of}

-- a fourth part, at least
four : (b : Bool) (x : ℕ) (env items crit : List ℕ) (ps : List (List ℕ)) → parts_read (env ∷ items ∷ crit ∷ cond b ([] ∷ ps) (onto_first x ps)) ≡ Err Bars
four true x env items crit ps = refl
four false x env items crit [] = refl
four false x env items crit (p ∷ ps) = refl

many : (env items crit rest : List ℕ) → parts_read (env ∷ items ∷ crit ∷ parts bar rest) ≡ Err Bars
many env items crit [] = refl
many env items crit (x ∷ xs) = four _ x env items crit (parts bar xs)

pub reading_of-no_bar : (b : List ℕ) → parts bar b ≡ b ∷ [] → Err Bars ≡ reading_of b
unfolding reading_of
reading_of-no_bar b e = rw e refl

pub reading_of-one_bar : (b env rest : List ℕ) → parts bar b ≡ env ∷ parts bar rest → parts bar rest ≡ rest ∷ [] → Err Bars ≡ reading_of b
unfolding reading_of
reading_of-one_bar b env rest e f = rw (e, f) refl

pub reading_of-two_bars : (b env rest items crit : List ℕ)
    → parts bar b ≡ env ∷ parts bar rest → parts bar rest ≡ items ∷ parts bar crit → parts bar crit ≡ crit ∷ [] → fields_read env items crit ≡ reading_of b
unfolding reading_of
reading_of-two_bars b env rest items crit e f g = rw (e, f, g) refl

pub reading_of-more_bars : (b env rest items left crit more : List ℕ)
    → parts bar b ≡ env ∷ parts bar rest → parts bar rest ≡ items ∷ parts bar left → parts bar left ≡ crit ∷ parts bar more → Err Bars ≡ reading_of b
unfolding reading_of
reading_of-more_bars b env rest items left crit more e f g = rw (e, f, g) (sym (many env items crit more))

pub ruleset bar_rules = (reading_of-no_bar, reading_of-one_bar, reading_of-two_bars, reading_of-more_bars)
