-- Slots of one or two jobs that a list of labelled jobs fills: from each job of a segment paths lead to each job of the next.
use Rattle.std.proofs.Common.{◌≡◌, ℕ, zero, suc, ◌+◌, ◌-◌, ◌<◌, ◌≤◌, ◌⊎◌, inl, inr, Bool, true, false, refl, sym, ap, subst, ◌∙◌, lt_of_not-le, arith}
use Rattle.std.proofs.lemmas.Bool.{cases_eq, cases_lt, false≢true, true_from_ne_false}
use Rattle.msp_lexical.specs.Slots.{AreSlots, IsEnd, IsInner, AreTops}

module _ (n slots : ℕ) (slot label first second : ℕ → ℕ) (leads : ℕ → ℕ → Bool) (s : AreSlots n slots slot label first second leads) where
  -- of the jobs of a slot and the later ones its first job has the greatest label
  greatest_by : (fuel x j : ℕ) → slot j < fuel → x < slots → j < n → x ≤ slot j → label j ≤ label (first x)
  greatest_by zero x j f l b e = absurd (omega (arith, f))
  greatest_by (suc fuel) x j f l b e = elim (cases_lt x (slot j)) [
    | inl less ↦ elim (s.greedy j x b less) [
      | inl p ↦ let (i, c, leads_to, early) = p in
          let earlier = s.later i j c b leads_to in
          let below = s.lower i j c b leads_to in
          omega (arith, greatest_by fuel x i (omega (arith, earlier, f)) l c early, below)
      | inr p ↦ omega (arith, p.1, (s.second_in x l p.0).1)
    ]
    | inr more ↦ here (omega (arith, more, e)) (s.only j b).1
  ]
    where
      here : slot j ≡ x → (j ≡ first (slot j)) ⊎ (j ≡ second (slot j)) → label j ≤ label (first x)
      here same (inl a) = omega (arith, ap label (a ∙ ap first same))
      here same (inr a) = let at : j ≡ second x = a ∙ ap second same in omega (arith, ap label at, (s.second_in x l (subst (λ k. k < n) at b)).1)

  pub greatest : (x j : ℕ) → x < slots → j < n → x ≤ slot j → label j ≤ label (first x)
  greatest x j l b e = greatest_by (slot j + 1) x j (omega arith) l b e

  -- the first job of its slot, where it has the greatest label
  same_slot : (x j : ℕ) → x < slots → j < n → label j ≡ label (first x) → slot j ≡ x
  same_slot x j l b e = let f = s.first_in x l in ap slot (s.distinct j (first x) b f.0 e) ∙ f.1

  module _ (top : ℕ → ℕ) (t : AreTops n slots label first second top) where
    abbrev Ends : ℕ → Type 0
    Ends x = IsEnd n slots label first second top x

    abbrev Goes : ℕ → Type 0
    Goes x = IsInner n slots label second top x

    pub top_first : (x : ℕ) → x < slots → top x ≤ label (first x)
    top_first x l = grind (arith, t x l, s.second_in x l)

    top_falls : (d x : ℕ) → x + d < slots → top (x + d) ≤ top x
    top_falls zero x l = let same : x + 0 ≡ x = omega arith in omega (arith, ap top same)
    top_falls (suc d) x l = omega (arith, ap top split, next, top_falls d x (omega (arith, l)))
      where
        split : x + suc d ≡ (x + d) + 1
        split = omega arith

        next : top ((x + d) + 1) ≤ top (x + d)
        next = elim (t (x + d) (omega (arith, l))) [
          | inl e ↦
              let after : (x + d) + 1 < slots = omega (arith, l) in
              let f = s.first_in ((x + d) + 1) after in
              omega (arith, e.0, top_first ((x + d) + 1) after, greatest (x + d) (first ((x + d) + 1)) (omega (arith, l)) f.0 (omega (arith, f.1)))
          | inr i ↦ omega (arith, i.0)
        ]

    falls : (x y : ℕ) → x ≤ y → y < slots → top y ≤ top x
    falls x y e l = let same : x + (y - x) ≡ y = omega (arith, e) in subst (λ z. top z ≤ top x) same (top_falls (y - x) x (omega (arith, e, l)))

    -- the slot where the segment ends
    last_by : (fuel x : ℕ) → x < slots → slots ≤ x + fuel
        → (z : ℕ) × (x ≤ z) × (z < slots) × Ends z × (top z ≡ top x) × ((y : ℕ) → x ≤ y → y < z → Goes y)
    last_by zero x l f = absurd (omega (arith, l, f))
    last_by (suc fuel) x l f = elim (t x l) [
      | inl e ↦ (x, omega arith, l, e, refl, λ y from to. absurd (omega (arith, from, to)))
      | inr i ↦
          let (z, a, b, e, same, inner) = last_by fuel (x + 1) i.1 (omega (arith, f)) in
          let between : (y : ℕ) → x ≤ y → y < z → Goes y = λ y from to. elim (cases_eq x y) [
            | inl at ↦ subst Goes at i
            | inr after ↦ inner y (omega (arith, from, after)) to
          ] in
          (z, omega (arith, a), b, e, same ∙ sym i.0, between)
    ]

    pub last_slot : (x : ℕ) → x < slots → (z : ℕ) × (x ≤ z) × (z < slots) × Ends z × (top z ≡ top x) × ((y : ℕ) → x ≤ y → y < z → Goes y)
    last_slot x l = last_by slots x l (omega arith)

    -- the segment's jobs are those from its first slot on that have no lesser label than its least
    pub member : (x j : ℕ) → x < slots → j < n → x ≤ slot j → top x ≤ label j → top (slot j) ≡ top x
    member x j l b e h =
        let (z, after, inside, ends, same, inner) = last_slot x l in
        elim (cases_lt z (slot j)) [
          | inl past ↦
              let most = greatest z j inside b (omega (arith, past)) in
              let at : slot j ≡ z = same_slot z j inside b (omega (arith, most, h, same, ends.0)) in
              absurd (omega (arith, at, past))
          | inr within ↦ omega (arith, falls x (slot j) e (s.only j b).0, falls (slot j) z within inside, same)
        ]

    module _ (u : ℕ) (inside : u + 1 < slots) (ends : Ends u) where
      early : u < slots
      early = omega (arith, inside)

      -- the second job of the last slot has a lesser label than the jobs of the next segment
      low : second u < n → label (second u) ≤ top (u + 1)
      low h = elim ends.1 [ inl e ↦ absurd (omega (arith, e, inside)) | inr e ↦ elim e [ inl none ↦ absurd (omega (arith, none, h)) | inr r ↦ r ] ]

      -- the first job of the last slot leads to each job of the next segment
      first_leads_by : (fuel x : ℕ) → slot x < fuel → x < n → u < slot x → top (u + 1) ≤ label x → leads (first u) x ≡ true
      first_leads_by zero x f b l h = absurd (omega (arith, f))
      first_leads_by (suc fuel) x f b l h = elim (s.greedy x u b l) [
        | inl p ↦ let (y, c, to, e) = p in by (λ y c past more g. first_leads_by fuel y g c past more) y c to (s.later y x c b to) (s.lower y x c b to) e (cases_lt u (slot y)) (s.only y c).1
        | inr p ↦
            let r = low p.0 in
            let same : x ≡ second u = s.distinct x (second u) b p.0 (omega (arith, p.1, r, h)) in
            absurd (omega (arith, ap slot same, (s.second_in u early p.0).0, l))
      ]
        where
          by : ((y : ℕ) → y < n → u < slot y → top (u + 1) ≤ label y → slot y < fuel → leads (first u) y ≡ true) → (y : ℕ) → y < n → leads y x ≡ true → slot y < slot x
              → label x < label y → u ≤ slot y → (u < slot y) ⊎ (slot y ≤ u) → (y ≡ first (slot y)) ⊎ (y ≡ second (slot y)) → leads (first u) x ≡ true
          by again y c to sooner greater e (inl past) at = s.joined (first u) y x (s.first_in u early).0 c b (again y c past (omega (arith, greater, h)) (omega (arith, sooner, f))) to
          by again y c to sooner greater e (inr near) (inl at) = let here : slot y ≡ u = omega (arith, e, near) in subst (λ z. leads z x ≡ true) (at ∙ ap first here) to
          by again y c to sooner greater e (inr near) (inr at) =
              let here : slot y ≡ u = omega (arith, e, near) in
              let is : y ≡ second u = at ∙ ap second here in
              absurd (omega (arith, low (subst (λ z. z < n) is c), ap label is, greater, h))

      pub first_leads : (x : ℕ) → x < n → u < slot x → top (u + 1) ≤ label x → leads (first u) x ≡ true
      first_leads x b l h = first_leads_by (slot x + 1) x (omega arith) b l h

      -- a job of the slots up to the last one is of the segment, where its label is above those of the next
      above : (z w : ℕ) → w < n → top z ≡ top u → z ≤ slot w → slot w ≤ u → top (u + 1) < label w → top u ≤ label w
      above z w b same from near more = by (cases_lt (slot w) u) (s.only w b).1
        where
          slot_early : slot w < slots
          slot_early = omega (arith, near, early)

          top_same : top (slot w) ≡ top u
          top_same = omega (arith, falls z (slot w) from slot_early, falls (slot w) u near early, same)

          by : (slot w < u) ⊎ (u ≤ slot w) → (w ≡ first (slot w)) ⊎ (w ≡ second (slot w)) → top u ≤ label w
          by place (inl at) = omega (arith, top_first (slot w) slot_early, ap label at, top_same)
          by (inl less) (inr at) = elim (t (slot w) slot_early) [
            | inl e ↦ let here : slot (first (slot w)) ≡ u = same_slot u (first (slot w)) early (s.first_in (slot w) slot_early).0 (omega (arith, e.0, top_same, ends.0)) in
                absurd (omega (arith, here, (s.first_in (slot w) slot_early).1, less))
            | inr i ↦ omega (arith, i.3, i.0, ap label at, top_same)
          ]
          by (inr last) (inr at) =
              let here : slot w ≡ u = omega (arith, near, last) in
              let is : w ≡ second u = at ∙ ap second here in
              absurd (omega (arith, low (subst (λ v. v < n) is b), ap label is, more))

      -- and so does each job of the segment
      leads_by : (fuel z x : ℕ) → u < slot z + fuel → z < n → slot z ≤ u → top (slot z) ≡ top u → top u ≤ label z → x < n → u < slot x → top (u + 1) ≤ label x → leads z x ≡ true
      leads_by zero z x f c near same high b l h = absurd (omega (arith, f, near))
      leads_by (suc fuel) z x f c near same high b l h = elim (cases_lt (slot z) u) [
        | inl less ↦ true_from_ne_false (leads z x) (λ not.
            differ (λ w d near same high far. leads_by fuel w x far d near same high b l h)
            less not (s.ranked z (first u) x c (s.first_in u early).0 b (greater less) (first_leads x b l h) not))
        | inr last ↦ at_last (omega (arith, near, last)) (s.only z c).1
      ]
        where
          greater : slot z < u → label (first u) < label z
          greater less = lt_of_not-le (λ r. omega (arith, same_slot u z early c (omega (arith, r, high, ends.0)), less))

          at_last : slot z ≡ u → (z ≡ first (slot z)) ⊎ (z ≡ second (slot z)) → leads z x ≡ true
          at_last here (inl at) = subst (λ v. leads v x ≡ true) (sym (at ∙ ap first here)) (first_leads x b l h)
          at_last here (inr at) =
              let is : z ≡ second u = at ∙ ap second here in
              absurd (omega (arith, (s.second_in u early (subst (λ v. v < n) is c)).1, ap label is, high, ends.0))

          differ : ((w : ℕ) → w < n → slot w ≤ u → top (slot w) ≡ top u → top u ≤ label w → u < slot w + fuel → leads w x ≡ true)
              → slot z < u → leads z x ≡ false → (w : ℕ) × (w < n) × (label x < label w) × (leads z w ≡ true) × (leads (first u) w ≡ false) → ⊥
          differ again less not (w, d, more, to, not_to) =
              let after = s.later z w c d to in
              elim (cases_lt u (slot w)) [
                | inl past ↦ false≢true (sym not_to ∙ first_leads w d past (omega (arith, more, h)))
                | inr within ↦
                    let in_segment = above (slot z) w d same (omega (arith, after)) within (omega (arith, more, h)) in
                    let top_same : top (slot w) ≡ top u = omega (arith, falls (slot z) (slot w) (omega (arith, after)) (s.only w d).0, falls (slot w) u within early, same) in
                    false≢true (sym not ∙ s.joined z w x c d b to (again w d within top_same in_segment (omega (arith, f, after))))
              ]

      pub each_leads : (z x : ℕ) → z < n → slot z ≤ u → top (slot z) ≡ top u → top u ≤ label z → x < n → u < slot x → top (u + 1) ≤ label x → leads z x ≡ true
      each_leads z x = leads_by (u + 1) z x (omega arith)
