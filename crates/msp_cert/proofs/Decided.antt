-- The value of a proof is determined, so that one comparison decides whether the proof shows a bound.
use Rattle.std.proofs.Common.{◌≡◌, ℕ, zero, suc, ◌+◌, ◌*◌, ◌-◌, ◌≤◌, Bool, false, List, [], ◌∷◌, length, sum_by, All, AllPairs, IsPermutation, ℤ, pos, ◌*ℤ◌, ◌≤ℤ◌, refl, sym, ap}
use Rattle.std.proofs.Common.{subst, subst₂, ◌∙◌, arith}
use Rattle.std.specs.Prelude.{take, sum, Any, Some, None, IsTrue, ◌↔◌, slice_index_or}
use Rattle.std.proofs.lemmas.Bool.{false≢true}
use Rattle.std.proofs.lemmas.List.Sums.{sum_by-cons}
use Rattle.msp_class.proofs.Sums.{sum_by-IsPermutation}
use Rattle.msp_class.proofs.IntegerRing.{≤ℤ_antisym}
use Rattle.msp_instance.specs.declared.Need.{Need}
use Rattle.msp_instance.specs.Instance.{job_at}
use Rattle.msp_instance.specs.declared.Job.{Job}
use Rattle.msp_instance.specs.declared.Instance.{Instance}
use Rattle.msp_pieces.specs.declared.Frac.{Frac}
use Rattle.msp_pieces.specs.Levels.{level_bound}
use Rattle.msp_pieces.specs.Blocks.{IsBlockValue, LeadsToNone, cost_at, total_time}
use Rattle.msp_cert.specs.declared.Proof.{Proof}
use Rattle.msp_cert.specs.declared.Proof.TheVariants.{Group, Machine, Line, Levels, Block}
use Rattle.msp_cert.specs.Certificates.{speeds_of, IsSpeedOfFastest, IsGroup, AreSteps, of_job, HoldsFor, IsValue, IsShown}
use Rattle.msp_cert.specs.Small.{time_there}
use Rattle.msp_cert.specs.Search.{HasValue}
use Rattle.msp_cert.specs.Worth.{IsWorth}
use Rattle.msp_cert.proofs.Fastest.{some_threshold}

-- the first numbers are at most what any threshold says
first_below : (xs : List ℕ) (count t : ℕ) → sum (take count xs) ≤ count * t + sum_by (λ x. x - t) xs
first_below [] zero t = omega arith
first_below [] (suc n) t = omega arith
first_below (x ∷ xs) zero t = omega arith
first_below (x ∷ xs) (suc n) t = by (sum (take (suc n) (x ∷ xs))) _ _ _ (sum_by-cons (λ y. y) x (take n xs)) (sum_by-cons (λ y. y - t) x xs) (first_below xs n t)
  where
    by : (a b c d : ℕ) → a ≡ x + b → c ≡ (x - t) + d → b ≤ n * t + d → a ≤ suc n * t + c
    by a b c d e f h = let k : suc n * t ≡ n * t + t = omega arith in omega (arith, e, f, h, k)

speed_at_most : (i : Instance) (count a b : ℕ) → 1 ≤ count → IsSpeedOfFastest i count a → IsSpeedOfFastest i count b → a ≤ b
speed_at_most i count a b some h g =
    let (t, is) = some_threshold g.order count some g.falls in
    let one = sum_by-IsPermutation (λ x. x - t) (speeds_of i) h.order h.all in
    let two = sum_by-IsPermutation (λ x. x - t) (speeds_of i) g.order g.all in
    omega (arith, is.reached, first_below h.order count t, one, two, h.first, g.first)

speed_same : (i : Instance) (count a b : ℕ) → 1 ≤ count → IsSpeedOfFastest i count a → IsSpeedOfFastest i count b → a ≡ b
speed_same i count a b some h g = omega (arith, speed_at_most i count a b some h g, speed_at_most i count b a some g h)

-- the value of a block
begin_at_most : (heads jobs : List ℕ) (a b : ℕ) → All (λ j. a ≤ slice_index_or heads j 0) jobs → Any (λ j. slice_index_or heads j 0 ≡ b) jobs → a ≤ b
begin_at_most heads jobs a b after (k, x, l, at, is) = omega (arith, is, subst (λ y. a ≤ slice_index_or heads y 0) at (after k x l))

block_begin : (i : Instance) (heads jobs : List ℕ) (a b : ℤ) (h : IsBlockValue i heads jobs a) (g : IsBlockValue i heads jobs b) → h.begin ≡ g.begin
block_begin i heads jobs a b h g = omega (arith, begin_at_most heads jobs h.begin g.begin h.after g.first, begin_at_most heads jobs g.begin h.begin g.after h.first)

block_at_most : (i : Instance) (heads jobs : List ℕ) (a b : ℤ) → IsBlockValue i heads jobs a → IsBlockValue i heads jobs b → a ≤ℤ b
block_at_most i heads jobs a b h g =
    let (k, x, l, at, (none, is)) = g.reached in
    let same = block_begin i heads jobs a b h g in
    subst (λ y. a ≤ℤ y) (sym is)
    (subst (λ n. a ≤ℤ cost_at i x (n + total_time i jobs)) same (subst (λ y. LeadsToNone i jobs y → a ≤ℤ cost_at i y (h.begin + total_time i jobs)) at (h.least k x l) none))

value_same : (i : Instance) (b : Frac) (p : Proof) (num m : ℤ) (den d : ℕ) → HoldsFor i p → IsValue i p num den → IsValue i p m d → (num ≡ m) × (den ≡ d)
value_same i b (Group jobs) num m den d holds h g = (h.0 ∙ sym g.0, speed_same i (length jobs) den d holds.some h.1 g.1)
value_same i b (Block head jobs) num m den d holds h g = (≤ℤ_antisym (block_at_most i head jobs num m h.0 g.0) (block_at_most i head jobs m num g.0 h.0), h.1 ∙ sym g.1)
value_same i b _ num m den d holds h g = (h.0 ∙ sym g.0, h.1 ∙ sym g.1)

-- one comparison with the value decides whether a bound is shown, or just the cost is
module _ (i : Instance) (b v : Frac) (p : Proof) (x : Bool) (w : HoldsFor i p × ((den : ℕ) × (v.den ≡ pos den) × IsValue i p v.num den)) where
  abbrev den : ℕ
  den = w.1.0

  pub shows_some : (IsTrue x ↔ ((b.num *ℤ v.den) ≤ℤ (v.num *ℤ b.den))) → (IsTrue x ↔ IsShown i b p)
  shows_some h = (
    λ yes. record { holds = w.0; num = v.num; den = den; value = w.1.2; below = subst (λ d. (b.num *ℤ d) ≤ℤ (v.num *ℤ b.den)) w.1.1 (h.0 yes) },
    λ shown. let (e, f) = value_same i b p shown.num v.num shown.den den w.0 shown.value w.1.2 in
        h.1 (subst (λ d. (b.num *ℤ d) ≤ℤ (v.num *ℤ b.den)) (sym w.1.1) (subst₂ (λ m d. (b.num *ℤ pos d) ≤ℤ (m *ℤ b.den)) e f shown.below)),
  )

  pub equals_some : (IsTrue x ↔ ((b.num *ℤ v.den) ≡ (v.num *ℤ b.den))) → (IsTrue x ↔ HasValue i b p)
  equals_some h = (
    λ yes. record { holds = w.0; num = v.num; den = den; value = w.1.2; same = subst (λ d. (b.num *ℤ d) ≡ (v.num *ℤ b.den)) w.1.1 (h.0 yes) },
    λ shown. let (e, f) = value_same i b p shown.num v.num shown.den den w.0 shown.value w.1.2 in
        h.1 (subst (λ d. (b.num *ℤ d) ≡ (v.num *ℤ b.den)) (sym w.1.1) (subst₂ (λ m d. (b.num *ℤ pos d) ≡ (m *ℤ b.den)) e f shown.same)),
  )

pub shows_none : (i : Instance) (b : Frac) (p : Proof) → IsWorth i p None → IsTrue false ↔ IsShown i b p
shows_none i b p never = (λ yes. absurd (false≢true yes), λ shown. absurd (never shown.num shown.den shown.holds shown.value))

pub equals_none : (i : Instance) (b : Frac) (p : Proof) → IsWorth i p None → IsTrue false ↔ HasValue i b p
equals_none i b p never = (λ yes. absurd (false≢true yes), λ shown. absurd (never shown.num shown.den shown.holds shown.value))

-- what each kind is worth, by what the code reads
pub worth_nothing : (i : Instance) (p : Proof) → ¬ HoldsFor i p → IsWorth i p None
worth_nothing i p never = λ num den holds value. absurd (never holds)

pub machine_is_worth : (i : Instance) (machine load : ℕ) (jobs : List Job) (v : Frac) → HoldsFor i (Machine machine) → jobs ≡ i.jobs → load ≡ sum_by (λ j. sum_by (time_there machine) j.needs) jobs
    → v.num ≡ pos load → v.den ≡ pos 1 → IsWorth i (Machine machine) (Some v)
machine_is_worth i machine load jobs v holds same e num den = (holds, (1, den, (num ∙ ap pos (e ∙ ap (λ l. sum_by (λ j. sum_by (time_there machine) j.needs) l) same), refl)))

pub line_is_worth : (i : Instance) (job length : ℕ) (needs : List Need) (v : Frac) → HoldsFor i (Line job) → needs ≡ (job_at i job).needs → length ≡ sum_by (λ n. n.time) needs
    → v.num ≡ pos length → v.den ≡ pos 1 → IsWorth i (Line job) (Some v)
line_is_worth i job length needs v holds same e num den = (holds, (1, den, (num ∙ ap pos (e ∙ ap (λ l. sum_by (λ n. n.time) l) same), refl)))

pub group_is_worth : (i : Instance) (jobs order : List ℕ) (time speed : ℕ) (v : Frac)
    → IsGroup i jobs → time ≡ total_time i jobs → IsPermutation (speeds_of i) order → AllPairs (λ x y. y ≤ x) order → speed ≡ sum (take (length jobs) order)
    → v.num ≡ pos time → v.den ≡ pos speed → IsWorth i (Group jobs) (Some v)
group_is_worth i jobs order time speed v holds e all falls first num den = (holds, (speed, den, (num ∙ ap pos e, record { order = order; all = all; falls = falls; first = first })))

pub levels_are_worth : (i : Instance) (level : List ℕ) (tail value : ℕ) (v : Frac) → AreSteps i level tail → value ≡ level_bound i (of_job level) tail
    → v.num ≡ pos value → v.den ≡ pos 1 → IsWorth i (Levels level tail) (Some v)
levels_are_worth i level tail value v holds e num den = (holds, (1, den, (num ∙ ap pos e, refl)))
