-- The cost curve of a job: what is read is what was written, and what was written is read again.
use Rattle.std.proofs.Common.{◌≡◌, ℕ, suc, ◌+◌, ◌-◌, ◌*◌, ◌/◌, ◌≤◌, ◌==◌, List, [], ◌∷◌, ◌++◌, length, Ok, All, refl, sym, ap, subst, ◌∙◌, codes, decimal, arith}
use Rattle.std.specs.Prelude.{Bool, true, false, nat_le, if◌then◌else◌}
use Rattle.std.specs.Fmt.{signed_decimal}
use Rattle.std.specs.List.{AllByRecursion, flat_map}
use Rattle.std.proofs.lemmas.Bool.{eq-eqb, eqb-true, le-leb, leb-true}
use Rattle.std.proofs.lemmas.List.{append_assoc, append-nil}
use Rattle.std.proofs.lemmas.List.Elements.{All-nil, All-cons, All-head, All-tail}
use Rattle.msp_class.specs.declared.class.Crit.{Crit}
use Rattle.msp_class.specs.Crit.{uses_curve}
use Rattle.msp_instance.specs.declared.Step.{Step}
use Rattle.msp_instance.specs.declared.Curve.{Curve}
use Rattle.msp_instance.specs.Instance.{no_curve}
use Rattle.msp_instance.specs.Conditions.{text_limits, LiesWithin, IsCurve, HasCurve}
use Rattle.msp_class.specs.declared.sizes.TheConstants.{MOST_STEPS, GREATEST}
use Rattle.msp_grammar.specs.declared.lines.fault.What.TheVariants as what
use Rattle.msp_grammar.specs.declared.lines.fault.FileFault.TheVariants.{Count, Limit}
use Rattle.msp_grammar.specs.InstanceText.{line_text, where_wanted, step_fields, curve_fields}
use Rattle.msp_grammar.specs.lines.Reading.{Place, worded_at, natural_at, integer_at}
use Rattle.msp_file.specs.instance.Reading.{steps_at, curve_fields_at, steps_in, curve_line_at, curve_at}
use Rattle.msp_grammar.proofs.reading.LineLaws.{bind_ok, provided_ok, ok_is, Takes, Gets, IsField, worded_takes, worded_again, bind_again, provided_again}
use Rattle.msp_grammar.proofs.reading.FieldLaws.{wide_takes, wide_again, natural_field, signed_takes, signed_again, integer_field}
use Rattle.msp_file.proofs.instances.KeyLaws.{limit}
use Rattle.msp_grammar.proofs.reading.CostLaws.{plain_word}
use Rattle.msp_file.proofs.instances.NeedLaws.{two_parts, none_takes, none_again}

-- A step in range.
abbrev IsStep : Step → Type 0
IsStep s = (s.above ≤ GREATEST) × (s.add ≤ GREATEST)

pub steps_takes : (at : ℕ) (steps : List Step) (ws : List (List ℕ)) (after : List Step)
    → steps_at at steps ws ≡ Ok after → (more : List Step) × (after ≡ steps ++ more) × (ws ≡ flat_map step_fields more) × All IsStep more
unfolding steps_at
steps_takes at steps [] after e = ([], sym (ok_is steps after e) ∙ sym (append-nil steps), refl, All-nil IsStep)
steps_takes at steps (w ∷ []) after e = absurd cc
steps_takes at steps (w ∷ v ∷ ws) after e =
    let a = bind_ok (natural_at at what.Above 0 GREATEST w) _ after e in
    let b = bind_ok (natural_at at what.Add 0 GREATEST v) _ after a.2 in
    let next : Step = record { above = a.0; add = b.0 } in
    let r = steps_takes at (steps ++ next ∷ []) ws after b.2 in
    let t = wide_takes at what.Above 0 GREATEST w a.0 limit a.1 in
    let u = wide_takes at what.Add 0 GREATEST v b.0 limit b.1 in
    (next ∷ r.0, r.1 ∙ append_assoc steps (next ∷ []) r.0, two_parts t.0 (two_parts u.0 r.2), All-cons IsStep next r.0 (t.2, u.2) r.3)

pub steps_again : (at : ℕ) (steps more : List Step) → All IsStep more → steps_at at steps (flat_map step_fields more) ≡ Ok (steps ++ more)
unfolding steps_at
steps_again at steps [] h = ap Ok (sym (append-nil steps))
steps_again at steps (s ∷ more) h =
    let first = All-head IsStep s more h in
    bind_again _ _ _ _ (wide_again at what.Above 0 GREATEST s.above limit (omega arith) first.0) (
    bind_again _ _ _ _ (wide_again at what.Add 0 GREATEST s.add limit (omega arith) first.1) (
    steps_again at (steps ++ s ∷ []) more (All-tail IsStep s more h)
    ∙ ap Ok (append_assoc steps (s ∷ []) more)))

length-steps : (steps : List Step) → length (flat_map step_fields steps) ≡ 2 * length steps
length-steps [] = refl
length-steps (s ∷ steps) = let r = length-steps steps in omega (arith, r)

steps_fields : (steps : List Step) → All IsStep steps → AllByRecursion IsField (flat_map step_fields steps)
steps_fields [] h = tt
steps_fields (s ∷ steps) h = (natural_field s.above (All-head IsStep s steps h).0, (natural_field s.add (All-head IsStep s steps h).1, steps_fields steps (All-tail IsStep s steps h)))

-- The fields of a curve after its word.
abbrev curve_words : Curve → List (List ℕ)
curve_words v = decimal v.slope ∷ signed_decimal v.base ∷ flat_map step_fields v.steps

-- The numbers of a curve are in range.
record AreInRange (v : Curve) : Type 0 where
  slope : v.slope ≤ GREATEST
  base : LiesWithin GREATEST v.base
  steps : All IsStep v.steps

curve_fields_takes : (at : ℕ) (w u : List ℕ) (ws : List (List ℕ)) (v : Curve) → curve_fields_at at (w ∷ u ∷ ws) ≡ Ok v → (w ∷ u ∷ ws ≡ curve_words v) × AreInRange v
unfolding curve_fields_at
curve_fields_takes at w u ws v e =
    let a = bind_ok (natural_at at what.Slope 0 GREATEST w) _ v e in
    let b = bind_ok (integer_at at what.Base GREATEST u) _ v a.2 in
    let d = bind_ok (steps_at at [] ws) _ v b.2 in
    let t = wide_takes at what.Slope 0 GREATEST w a.0 limit a.1 in
    let r = signed_takes at what.Base GREATEST u b.0 limit b.1 in
    let s = steps_takes at [] ws d.0 d.1 in
    let made : Curve = record { slope = a.0; base = b.0; steps = d.0 } in
    let rest : ws ≡ flat_map step_fields d.0 = s.2 ∙ ap (flat_map step_fields) (sym s.1) in
    subst (λ (y : Curve). (w ∷ u ∷ ws ≡ curve_words y) × AreInRange y)
    (ok_is made v d.2) (two_parts t.0 (two_parts r.0 rest), record { slope = t.2; base = r.1; steps = subst (All IsStep) (sym s.1) s.3 })

curve_fields_again : (at : ℕ) (v : Curve) → AreInRange v → curve_fields_at at (curve_words v) ≡ Ok v
unfolding curve_fields_at
curve_fields_again at v h =
    bind_again _ _ _ _ (wide_again at what.Slope 0 GREATEST v.slope limit (omega arith) h.slope) (
    bind_again _ _ _ _ (signed_again at what.Base GREATEST v.base limit h.base) (
    bind_again _ _ _ _ (steps_again at [] v.steps h.steps) refl))

-- a line of at least two fields
two_at_least : (ws : List (List ℕ)) (n : ℕ) (P : List (List ℕ) → Type 0) → length ws ≡ 2 + n → ((w u : List ℕ) (us : List (List ℕ)) → ws ≡ w ∷ u ∷ us → P (w ∷ u ∷ us)) → P ws
two_at_least (w ∷ u ∷ us) n P e h = h w u us refl
two_at_least _ n P e h = absurd (omega arith)

curve_line_takes : (p : Place) (x : Curve × Place) → curve_line_at p ≡ Ok x → Takes p (line_text (curve_fields x.0)) x.1 × IsCurve text_limits x.0
unfolding curve_line_at
curve_line_takes p x e =
    let a = bind_ok (worded_at (codes "curve") p) _ x e in
    let f = provided_ok (nat_le (steps_in (length a.0.0)) MOST_STEPS) (Limit p.at what.Steps) _ x a.2 in
    let g = provided_ok (length a.0.0 == 2 + 2 * steps_in (length a.0.0)) (Count p.at) _ x f.1 in
    let b = bind_ok (curve_fields_at p.at a.0.0) _ x g.1 in
    let read : (a.0.0 ≡ curve_words b.0) × AreInRange b.0 =
    two_at_least a.0.0 _ (λ ws. curve_fields_at p.at ws ≡ Ok b.0 → (ws ≡ curve_words b.0) × AreInRange b.0) (eqb-true _ _ g.0) (λ w u us same. curve_fields_takes p.at w u us b.0) b.1 in
    let few : length b.0.steps ≤ MOST_STEPS = counted (length a.0.0) (length b.0.steps) (ap length read.0) (length-steps b.0.steps) (leb-true _ _ f.0) in
    let within : IsCurve text_limits b.0 = record { slope = read.1.slope; base = read.1.base; few = few; steps = read.1.steps } in
    subst (λ (y : Curve × Place). Takes p (line_text (curve_fields y.0)) y.1 × IsCurve text_limits y.0)
    (ok_is (b.0, a.0.1) x b.2) (subst (λ ws. Takes p (line_text (codes "curve" ∷ ws)) a.0.1) read.0 (worded_takes (codes "curve") p a.0 a.1), within)
  where
    counted : (n k : ℕ) {m : ℕ} → n ≡ suc (suc m) → m ≡ 2 * k → (n - 1) / 2 ≤ MOST_STEPS → k ≤ MOST_STEPS
    counted n k {m} e f h = omega arith

curve_line_again : (at : ℕ) (v : Curve) (rest : List ℕ) → IsCurve text_limits v → Gets (curve_line_at (record { at = at; rest = line_text (curve_fields v) ++ rest })) v rest
unfolding curve_line_at
curve_line_again at v rest h =
    let fields : AllByRecursion IsField (curve_fields v) = (plain_word (codes "curve") refl refl, (natural_field v.slope h.slope, (integer_field v.base h.base, steps_fields v.steps h.steps))) in
    let line = worded_again (codes "curve") (curve_words v) at rest fields in
    let counted = length-steps v.steps in (
      line.0,
      bind_again _ _ _ _ line.1 (
          provided_again _ _ _ _ (le-leb _ _ (few (length v.steps) h.few counted)) (
          provided_again _ _ _ _ (eq-eqb _ _ (even (length v.steps) counted)) (
          bind_again _ _ _ _ (curve_fields_again at v (record { slope = h.slope; base = h.base; steps = h.steps })) refl))),
    )
  where
    few : {m : ℕ} (k : ℕ) → k ≤ MOST_STEPS → m ≡ 2 * k → steps_in (suc (suc m)) ≤ MOST_STEPS
    few {m} k h e = omega arith

    even : {m : ℕ} (k : ℕ) → m ≡ 2 * k → suc (suc m) ≡ 2 + 2 * steps_in (suc (suc m))
    even {m} k e = omega arith

-- ---- the curve where the criterion has one

-- The line of the curve.
abbrev pub curve_line : Crit → Curve → List ℕ
curve_line crit v = where_wanted (uses_curve crit) (line_text (curve_fields v))

curve_by_takes : (curved : Bool) (p : Place) (x : Curve × Place) → (if curved then curve_line_at p else Ok (no_curve, p)) ≡ Ok x
    → Takes p (where_wanted curved (line_text (curve_fields x.0))) x.1 × HasCurve text_limits curved x.0
curve_by_takes true p x e = curve_line_takes p x e
curve_by_takes false p x e = none_takes no_curve p x e

pub curve_takes : (crit : Crit) (p : Place) (x : Curve × Place) → curve_at crit p ≡ Ok x → Takes p (curve_line crit x.0) x.1 × HasCurve text_limits (uses_curve crit) x.0
unfolding curve_at
curve_takes crit p x e = curve_by_takes (uses_curve crit) p x e

curve_by_again : (curved : Bool) (at : ℕ) (v : Curve) (rest : List ℕ) → HasCurve text_limits curved v
    → Gets {A = Curve} (if curved then curve_line_at (record { at = at; rest = where_wanted curved (line_text (curve_fields v)) ++ rest }) else Ok
    (no_curve, record { at = at; rest = where_wanted curved (line_text (curve_fields v)) ++ rest })) v rest
curve_by_again true at v rest h = curve_line_again at v rest h
curve_by_again false at v rest h = none_again no_curve v at rest h

pub curve_again : (crit : Crit) (at : ℕ) (v : Curve) (rest : List ℕ) → HasCurve text_limits (uses_curve crit) v → Gets (curve_at crit (record { at = at; rest = curve_line crit v ++ rest })) v rest
unfolding curve_at
curve_again crit at v rest h = curve_by_again (uses_curve crit) at v rest h
