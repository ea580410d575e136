-- The law of levels: floors, the tails of jobs along arcs, and the law of ends.
use Rattle.std.proofs.Common.{◌≡◌, ℕ, zero, suc, ◌+◌, ◌*◌, ◌/◌, ◌-◌, ◌<◌, ◌≤◌, Bool, true, cond, leb, length, pos, nat_abs, ◌-ℤ◌, ◌*ℤ◌, ◌≤ℤ◌, All, Contains, refl, sym, ap, subst, subst₂, ◌∙◌, arith}
use Rattle.std.proofs.lemmas.Bool.{leb-true, le-leb}
use Rattle.std.proofs.lemmas.Nat.{div_below}
use native.Mathlib.Nat.{mul-le-mul_left, le_of_mul-le-mul_left}
use Rattle.std.proofs.lemmas.List.Elements.{All-contains}
use Rattle.msp_class.specs.declared.environments.EnvKind.TheVariants.{Identical}
use Rattle.msp_class.specs.Env.{kind_of}
use Rattle.msp_class.proofs.Sums.{total_below-same, total_below-term, total_below-range, cond-yes}
use Rattle.msp_class.proofs.IntegerRing.{zero-le-pos, pos-le, le-pos, ≤ℤ_refl, ≤ℤ_trans}
use Rattle.msp_instance.specs.declared.Instance.{Instance}
use Rattle.msp_instance.specs.Instance.{need_at}
use Rattle.msp_instance.specs.Paths.{HasStep}
use Rattle.msp_pieces.specs.declared.Piece.{Piece}
use Rattle.msp_pieces.specs.declared.Schedule.{Schedule}
use Rattle.msp_pieces.specs.Piece.{IsBefore}
use Rattle.msp_pieces.specs.Feasible.{Feasible, HasOperation, whole_work}
use Rattle.msp_pieces.specs.Cost.{end_of}
use Rattle.msp_pieces.specs.Laws.{time_together, HasRoom, EndsLast, floored}
use Rattle.msp_pieces.proofs.bounds.EndsAndFloors.{law_of_ends, law_of_floors}
use Rattle.msp_pieces.proofs.feasible.OneMachine.{unit_in_parts}
use Rattle.msp_pieces.proofs.bounds.Floored.{FillsUnit, floored-fills}
use Rattle.msp_pieces.proofs.feasible.LastEnds.{last_end-reached}
use Rattle.msp_pieces.proofs.feasible.Frames.{frame_of, HasWork, IsShaped-from_identical, Fits-from_feasible}
use Rattle.msp_pieces.specs.Levels.{LeadsOut, AreLevels, StepsDown, jobs_from, level_bound, LawOfLevels}

-- ---- numbers
-- the quotient rounded up
pub rounded_up : (n m d : ℕ) → 1 ≤ n → n ≤ m * d → (n + (m - 1)) / m ≤ d
rounded_up n zero d some h = absurd (omega arith)
rounded_up n (suc m) d some h = let b : (n + (suc m - 1)) / suc m < d + 1 = div_below (n + (suc m - 1)) (suc m) (d + 1) (omega arith) (omega arith) in omega arith

pub cancelled : (u m n d : ℕ) → 1 ≤ u → u * n ≤ m * (u * d) → n ≤ m * d
cancelled u m n d some h = le_of_mul-le-mul_left {k = u} (omega (arith, h)) some

-- ---- levels step down along arcs
pub StepsDown-levels : (i : Instance) (level : ℕ → ℕ) → All (λ a. (a.before < length i.jobs) × (a.after < length i.jobs)) i.arcs → AreLevels i level → StepsDown i level
StepsDown-levels i level ends levels j b some = by (level j) refl (levels j b).path
  where
    by : (l : ℕ) → level j ≡ l → LeadsOut i.arcs l j → (k : ℕ) × (k < length i.jobs) × HasStep i.arcs j k × (level j ≤ level k + 1)
    by zero e p = absurd (omega (arith, e, some))
    by (suc l) e (k, step, p) =
        let inside : k < length i.jobs = (All-contains (λ a. (a.before < length i.jobs) × (a.after < length i.jobs)) i.arcs (record { before = j; after = k }) ends step).1 in
        (k, inside, step, omega (arith, e, (levels k inside).longest l p))

-- where jobs on identical machines take one unit of time, each has work
pub unit_work : (i : Instance) → kind_of i.class.env ≡ Identical → ((k : ℕ) → k < length i.jobs → (need_at i k 0).time ≡ 1) → HasWork (frame_of i)
unit_work i kind ones = record { some = λ j b. (0, subst (λ k. HasOperation k i j 0) (sym kind) refl, subst (λ k. 1 ≤ whole_work k i j 0) (sym kind) (omega (arith, ones j b))) }

module _ (i : Instance) (level : ℕ → ℕ) (kind : kind_of i.class.env ≡ Identical) (ones : (k : ℕ) → k < length i.jobs → (need_at i k 0).time ≡ 1) (steps : StepsDown i level) where
  -- jobs of at least the level, by their times
  together : (t : ℕ) → time_together i (λ j. leb t (level j)) ≡ jobs_from i level t
  together t =
      let n = length i.jobs in
      total_below-range n (λ j. cond (leb t (level j)) (need_at i j 0).time 0)
      ∙ total_below-same n _ (λ j. cond (leb t (level j)) 1 0) (λ j b. ap (λ x. cond (leb t (level j)) x 0) (ones j b))
      ∙ sym (total_below-range n (λ j. cond (leb t (level j)) 1 0))

  -- in a schedule whose pieces last one unit and begin at multiples of it
  module _ (s : Schedule) (f : Feasible i s) (unit : ℕ) (unit_is : s.unit ≡ pos unit) (pieces : All (FillsUnit unit) s.pieces) where
    some_unit : 1 ≤ unit
    some_unit = le-pos (subst (λ x. pos 1 ≤ℤ x) unit_is f.unit)

    -- the job has its piece from q units on
    record IsRun (j q : ℕ) : Type 0 where
      piece : Piece
      here : Contains s.pieces piece
      of : piece.job ≡ j
      from : piece.from ≡ pos (unit * q)
      to : piece.to ≡ pos (unit * q + unit)
      end : end_of s j ≡ pos (unit * q + unit)

    run : (j : ℕ) → j < length i.jobs → (q : ℕ) × IsRun j q
    run j b =
        let (p, c, e, r) = last_end-reached (frame_of i) s.unit s.pieces (Fits-from_feasible i s (IsShaped-from_identical i kind) f) (unit_work i kind ones) j b in
        let (q, from, to) = All-contains (FillsUnit unit) s.pieces p pieces c in
        (q, record { piece = p; here = c; of = e; from = from; to = to; end = sym r ∙ to })

    -- along an arc
    later : (j k q r : ℕ) → HasStep i.arcs j k → IsRun j q → IsRun k r → q + 1 ≤ r
    later j k q r step a z =
        let one = All-contains (λ a. All (λ p. All (λ q. p.job ≡ a.before → q.job ≡ a.after → IsBefore p q) s.pieces) s.pieces) i.arcs (record { before = j; after = k }) f.arc step in
        let two = All-contains (λ p. All (λ q. p.job ≡ j → q.job ≡ k → IsBefore p q) s.pieces) s.pieces a.piece one a.here in
        let before = All-contains (λ q. a.piece.job ≡ j → q.job ≡ k → IsBefore a.piece q) s.pieces z.piece two z.here a.of z.of in
        le_of_mul-le-mul_left {k = unit} (omega (arith, le-pos (subst₂ (λ x y. x ≤ℤ y) a.to z.from before))) some_unit

    -- the last job ends at a whole number of units, and a job of at least level t ends at least t units earlier
    module _ (k r : ℕ) (last : EndsLast i s (λ _. true) k) (z : IsRun k r) where
      tail : (t j q : ℕ) → j < length i.jobs → t ≤ level j → IsRun j q → q + t ≤ r
      tail zero j q b h a = by (le-pos (subst₂ (λ x y. x ≤ℤ y) a.end z.end (last.latest j b refl)))
        where
          by : unit * q + unit ≤ unit * r + unit → q + 0 ≤ r
          by h = let less : q ≤ r = le_of_mul-le-mul_left {k = unit} (omega (arith, h)) some_unit in omega arith
      tail (suc t) j q b h a =
          let (k', b', step, down) = steps j b (omega (arith, h)) in
          let (q', a') = run k' b' in
          omega (arith, later j k' q q' step a a', tail t k' q' b' (omega (arith, down, h)) a')

      module _ (t j : ℕ) (b : j < length i.jobs) (h : t ≤ level j) where
        abbrev high : ℕ → Bool
        high j = leb t (level j)

        some_high : 1 ≤ jobs_from i level t
        some_high =
            let count : ℕ → ℕ = λ j. cond (leb t (level j)) 1 0 in
            let term = total_below-term (length i.jobs) count j b in
            let one : count j ≡ 1 = cond-yes 1 (le-leb t (level j) h) in
            omega (arith, total_below-range (length i.jobs) count, term, one)

        inside : t ≤ r
        inside = let (q, a) = run j b in omega (arith, tail t j q b h a)

        abbrev d : ℕ
        d = r + 1 - t

        early : (j : ℕ) → j < length i.jobs → high j ≡ true → end_of s j ≤ℤ pos (unit * d)
        early j b e =
            let (q, a) = run j b in
            let fits : q + 1 ≤ d = omega (arith, tail t j q b (leb-true t (level j) e) a) in
            subst (λ x. x ≤ℤ pos (unit * d)) (sym a.end) (pos-le (omega (arith, mul-le-mul_left unit fits)))

        room : jobs_from i level t ≤ i.machines * d
        room = cancelled unit i.machines (jobs_from i level t) d some_unit (let whole : unit * jobs_from i level t ≤ i.machines * (unit * d + 0) = le-pos
            (subst₂ (λ x n. (x *ℤ pos n) ≤ℤ (pos i.machines *ℤ (pos (unit * d) -ℤ pos 0))) unit_is (together t) has) in omega (arith, whole))
          where
            has : HasRoom i s high (pos 0) (pos (unit * d))
            has = law_of_ends.room i s high (pos 0) (pos (unit * d)) kind f (≤ℤ_refl (pos 0)) (zero-le-pos (unit * d)) (λ n x l e. (f.span n x l).0) early

        bound : (s.unit *ℤ pos (level_bound i level t)) ≤ℤ end_of s k
        bound = subst₂ (λ x y. (x *ℤ pos (level_bound i level t)) ≤ℤ y) (sym unit_is)
            (sym z.end) (pos-le (by (level_bound i level t) (omega (arith, rounded_up (jobs_from i level t) i.machines d some_high room, inside))))
          where
            by : (v : ℕ) → v ≤ r + 1 → unit * v ≤ unit * r + unit
            by v h = omega (arith, mul-le-mul_left unit h)

pub law_of_levels : LawOfLevels
law_of_levels i s level t j kind whole ones steps f b h =
    let (g, no_later) = law_of_floors i s kind whole ones f in
    let (k, last, room) = law_of_ends.last i (floored s) (λ _. true) (pos 0) kind g (≤ℤ_refl (pos 0)) (λ n x l e. (g.span n x l).0) (λ m l. omega (arith, ones m l)) j b refl in
    let unit_is = unit_in_parts i s f in
    let (r, z) = run i level kind ones steps (floored s) g (nat_abs s.unit) unit_is (floored-fills s f.unit) k last.inside in
    (k, last.inside, ≤ℤ_trans (bound i level kind ones steps (floored s) g (nat_abs s.unit) unit_is (floored-fills s f.unit) k r last z t j b h) (no_later k))
