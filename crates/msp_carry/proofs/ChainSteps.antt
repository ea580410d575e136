-- Chains taken apart at their first row, and what comes back over them.
use Rattle.std.proofs.Common.{◌≡◌, ℕ, ◌-◌, ◌≤◌, ◌<◌, List, [], ◌∷◌, length, take, drop, Some, Result, Ok, Err, inr, ℤ, pos, ◌≤ℤ◌, ◌<ℤ◌, refl, sym, ap, ap₂, subst, ◌∙◌, arith}
use Rattle.std.specs.Prelude.{IsTrue, IsSome, IfOk, slice_index_or}
use Rattle.std.proofs.lemmas.Int.{ints}
use Rattle.std.proofs.lemmas.List.{take_all, nil_from_length}
use Rattle.std.proofs.lemmas.Result.{IfOk-weaker}
use Rattle.msp_class.specs.declared.NoMemory.{NoMemory}
use Rattle.msp_class.specs.declared.class.Class.{Class}
use Rattle.msp_class.specs.Env.{kind_of}
use Rattle.msp_class.proofs.IntegerRing.{≤ℤ_trans}
use Rattle.msp_instance.specs.declared.Instance.{Instance}
use Rattle.msp_pieces.specs.declared.Schedule.{Schedule}
use Rattle.msp_pieces.specs.declared.Solution.{Solution}
use Rattle.msp_pieces.specs.Feasible.{Feasible}
use Rattle.msp_pieces.specs.Within.{Within, IsMoment}
use Rattle.msp_table.specs.Rows.{carries}
use Rattle.msp_table.specs.Chains.{Leads, stay, step}
use Rattle.msp_table.proofs.ChainLemmas.{Leads-first, Leads-one}
use Rattle.msp_route.specs.Law.{Applies, IsLower}
use Rattle.msp_route.proofs.KindLimits.{greatest_unit-most}
use Rattle.msp_route.specs.Bounds.{EndsBy, IsSized, IsBounded, KeepsBounds, greatest_unit}
use Rattle.msp_route.specs.declared.bounds.TheConstants.{GREATEST_BACK_MOMENT}
use Rattle.msp_carry.specs.Carried.{lower_of, carried, IsChainTo}
use Rattle.msp_carry.specs.Moments.{moment_over}
use Rattle.msp_carry.proofs.Turns.{moment_over-low}

-- the rows behind the first
abbrev pub behind : List ℕ → List ℕ
behind rows = take (length rows - 1) (drop 1 rows)

-- a chain whose first row is given, and the chain that is left at its lower end
pub record FirstStep (i : Instance) (k : ℕ) (rows : List ℕ) (last : Class) : Type 0 where
  pub is : rows ≡ k ∷ behind rows
  pub shorter : length (behind rows) < length rows
  pub usable : IsTrue (carries k)
  pub applies : Applies k i
  pub rest : (j : Instance) → IsLower k i j → IsChainTo j (behind rows) last
  pub leads : (j : Instance) (c : Class) → IsLower k i j → Leads carries j.class (behind rows) c → Leads carries i.class rows c

same_some : {x y : Class} → Some x ≡ Some y → x ≡ y
same_some e = cc

first_is : (rows : List ℕ) (k : ℕ) → 1 ≤ length rows → k ≡ slice_index_or rows 0 k → rows ≡ k ∷ behind rows
first_is [] k some is = absurd (omega (arith, some))
first_is (j ∷ js) k some is = ap₂ (λ x xs. x ∷ xs) (sym is) (sym (take_all (length (j ∷ js) - 1) js (omega arith)))

pub first_step : (i : Instance) (k : ℕ) (rows : List ℕ) (last : Class) → 1 ≤ length rows → k ≡ slice_index_or rows 0 k → IsChainTo i rows last → FirstStep i k rows last
first_step i k rows last some is chain =
    let split = first_is rows k some is in
    let long : length rows ≡ length (k ∷ behind rows) = ap length split in
    let first = Leads-first (subst (λ r. Leads carries i.class r last) split chain.leads) in
    record {
      is = split;
      shorter = omega (arith, long);
      usable = first.is_usable;
      applies = subst IsSome (sym first.goes) refl;
      rest = λ j led. record {
        leads = subst (λ c. Leads carries c (behind rows) last) (same_some (sym first.goes ∙ led.class)) first.rest;
        few = omega (arith, chain.few, long);
      };
      leads = λ j c led leads. subst (λ r. Leads carries i.class r c) (sym split) (step first.is_usable led.class leads);
    }

-- a chain without rows stays
pub no_rows : (rows : List ℕ) → length rows < 1 → rows ≡ []
no_rows rows none = nil_from_length rows (omega (arith, none))

pub stays_at : (a b : Class) (rows : List ℕ) → length rows < 1 → Leads carries a rows b → a ≡ b
stays_at a b rows none leads = Leads-one {usable = carries} a a b [] stay (subst (λ r. Leads carries a r b) (no_rows rows none) leads)

pub IfOk-stay : (i : Instance) (rows : List ℕ) (result : Result Instance NoMemory) → length rows < 1 → IfOk result (λ j. j ≡ i) → IfOk result (λ j. Leads carries i.class rows j.class)
IfOk-stay i rows (Ok j) none same = subst (λ r. Leads carries i.class r j.class) (sym (no_rows rows none)) (subst (λ x. Leads carries i.class [] x.class) (sym same) stay)
IfOk-stay i rows (Err e) none same = tt

pub IfOk-leads : {i j : Instance} {k : ℕ} {rows : List ℕ} {last : Class} (result : Result Instance NoMemory) → FirstStep i k rows last → IsLower k i j
    → IfOk result (λ x. Leads carries j.class (behind rows) x.class) → IfOk result (λ x. Leads carries i.class rows x.class)
IfOk-leads {j = j} result first led = IfOk-weaker result _ _ (λ x. first.leads j x.class led)

-- the instance at the end of a chain is that at the end of what is left
pub carried_on : {i j : Instance} {k : ℕ} {rows : List ℕ} {last : Class} → FirstStep i k rows last → j ≡ lower_of k i → carried rows i ≡ carried (behind rows) j
carried_on {i} {j} {k} {rows} first same = ap (λ r. carried r i) first.is ∙ ap (carried (behind rows)) (sym same)

pub IsBounded-chain : (i : Instance) (rows : List ℕ) (last : Class) (s : Schedule) → IsChainTo i rows last → IsSized i s → EndsBy (moment_over rows) s → IsBounded i s
IsBounded-chain i rows last s chain sized ends = record {
  sized = sized;
  ends = λ k d l. ≤ℤ_trans (ends k d l) (moment_over-low carries i.class last rows chain.leads chain.few);
}

pub IfOk-ends : {i : Instance} {k : ℕ} {rows : List ℕ} {last : Class} (lower : Instance) (t : Schedule) (result : Result Solution NoMemory)
    → FirstStep i k rows last → EndsBy (moment_over (behind rows)) t
    → IfOk result (λ s. KeepsBounds k i lower t s.schedule) → IfOk result (λ s. EndsBy (moment_over rows) s.schedule)
IfOk-ends {i} {k} {rows} lower t (Ok s) first ends keeps = subst (λ r. EndsBy (moment_over r) s.schedule) (sym first.is) (keeps.ends (moment_over (behind rows)) ends)
IfOk-ends lower t (Err e) first ends keeps = tt

moments : (from to : ℤ) → (pos 0 ≤ℤ from) × (from <ℤ to) → to ≤ℤ GREATEST_BACK_MOMENT → IsMoment from × IsMoment to
moments from to span ends = ((span.0, omega (arith, ints, span.1, ends)), (omega (arith, ints, span.0, span.1), omega (arith, ints, ends)))

Within-bounded : (i : Instance) (s : Schedule) → Feasible i s → IsBounded i s → Within i s
Within-bounded i s feasible bounded = record {
  unit = (feasible.unit, ≤ℤ_trans bounded.sized.unit (greatest_unit-most (kind_of i.class.env)));
  few = bounded.sized.few;
  moments = λ k d l. moments _ _ (feasible.span k d l) (bounded.ends k d l);
  scaled = λ e. inr (subst (λ k. s.unit ≤ℤ greatest_unit k) e bounded.sized.unit);
}

pub IfOk-within : (P : Solution → Type 0) (i : Instance) (rows : List ℕ) (last : Class) (result : Result Solution NoMemory) → IsChainTo i rows last → ((s : Solution) → P s → Feasible i s.schedule)
    → IfOk result P → IfOk result (λ s. IsSized i s.schedule) → IfOk result (λ s. EndsBy (moment_over rows) s.schedule) → IfOk result (λ s. Within i s.schedule)
IfOk-within P i rows last (Ok s) chain feasible holds sized ends = Within-bounded i s.schedule (feasible s holds) (IsBounded-chain i rows last s.schedule chain sized ends)
IfOk-within P i rows last (Err e) chain feasible holds sized ends = tt
