-- The earliest schedule of jobs by their heads, when it is idle, and what it leaves of a block when one job is taken out.
use Rattle.std.proofs.Common.{◌≡◌, ℕ, suc, ◌+◌, ◌-◌, ◌<◌, ◌≤◌, max, cond, ltb, ◌⊎◌, inl, inr, List, [], ◌∷◌, ◌++◌, length, get_or, take, All, AllPairs, sum_by}
use Rattle.std.proofs.Common.{refl, sym, ap, subst, ◌∙◌, arith, add-zero, le_trans, length-append}
use Rattle.std.proofs.lemmas.Bool.{cases_Bool, cond_both, cases_lt, lt-ltb, ltb-true, ltb-false}
use Rattle.std.proofs.lemmas.List.Sums.{sum_by-cons, sum_by-append}
use Rattle.std.proofs.lemmas.List.Elements.{All-nil, All-cons, All-head, All-tail, All-append, All-weaker}
use Rattle.msp_class.proofs.Sums.{AllPairs-head, AllPairs-tail}
use Rattle.msp_pieces.specs.declared.Piece.{Piece}
use Rattle.msp_pieces.specs.Intervals.{IsApart, size_of}
use Rattle.msp_pieces.specs.Piece.{start, finish}
use Rattle.msp_pieces.specs.BackToBack.{piece}
use Rattle.msp_pieces.proofs.feasible.Series.{AllPairs-append}
use Rattle.msp_blocks.specs.Filling.{done_by, busy_until, Follow, gap, gaps}

more : (a b c : ℕ) → a ≤ max a b + c
more a b c = omega arith

head_first : (a b c : ℕ) → b ≤ max a b + c
head_first a b c = omega arith

-- what holds of the piece between two moments, where there is time
gap-All : (P : Piece → Type 0) (job a b : ℕ) → (a < b → P (piece job a b)) → All P (gap job a b)
gap-All P job a b h = cond_both (ltb a b) (piece job a b ∷ []) [] (All P) (λ e. All-cons P (piece job a b) [] (h (ltb-true a b e)) (All-nil P)) (λ e. All-nil P)

gap-few : (job a b : ℕ) → length (gap job a b) ≤ 1
gap-few job a b = cond_both (ltb a b) (piece job a b ∷ []) [] (λ x. length x ≤ 1) (λ _. omega arith) (λ _. omega arith)

gap-apart : (job a b : ℕ) → AllPairs (IsApart start finish) (gap job a b)
gap-apart job a b i j d l m = absurd (omega (arith, l, m, gap-few job a b))

module _ (q p : ℕ → ℕ) where
  abbrev done : ℕ → List ℕ → ℕ
  done = done_by q p

  abbrev busy : ℕ → List ℕ → ℕ → ℕ
  busy = busy_until q p

  -- ---- when all are done
  pub done-mono : (s t : ℕ) (js : List ℕ) → s ≤ t → done s js ≤ done t js
  done-mono s t [] h = h
  done-mono s t (j ∷ js) h = done-mono (max s (q j) + p j) (max t (q j) + p j) js (omega (arith, h))

  pub done-after : (t : ℕ) (js : List ℕ) → t ≤ done t js
  done-after t [] = omega arith
  done-after t (j ∷ js) = omega (arith, done-after (max t (q j) + p j) js)

  pub done-tight : (t : ℕ) (js : List ℕ) → Follow q p t js → done t js ≡ t + sum_by p js
  done-tight t [] h = omega arith
  done-tight t (j ∷ js) h =
      let now : max t (q j) + p j ≡ t + p j = omega (arith, h.0) in
      ap (λ m. done m js) now ∙ done-tight (t + p j) js h.1 ∙ omega (arith, sum_by-cons p j js)

  -- ---- when those are done whose heads are before a moment
  pub busy-mono : (s t : ℕ) (js : List ℕ) (y : ℕ) → s ≤ t → busy s js y ≤ busy t js y
  busy-mono s t [] y h = h
  busy-mono s t (j ∷ js) y h = elim (cases_Bool (ltb (q j) y)) [
    | inl e ↦ rw e (busy-mono (max s (q j) + p j) (max t (q j) + p j) js y (omega (arith, h)))
    | inr e ↦ rw e (busy-mono s t js y h)
  ]

  pub busy-after : (t : ℕ) (js : List ℕ) (y : ℕ) → t ≤ busy t js y
  busy-after t [] y = omega arith
  busy-after t (j ∷ js) y = cond_both (ltb (q j) y) _ _ (λ n. t ≤ n) (λ _. le_trans (more t (q j) (p j)) (busy-after (max t (q j) + p j) js y)) (λ _. busy-after t js y)

  pub busy-append : (t : ℕ) (xs ys : List ℕ) (y : ℕ) → busy t (xs ++ ys) y ≡ busy (busy t xs y) ys y
  busy-append t [] ys y = refl
  busy-append t (j ∷ xs) ys y = elim (cases_Bool (ltb (q j) y)) [
    | inl e ↦ rw e (busy-append (max t (q j) + p j) xs ys y)
    | inr e ↦ rw e (busy-append t xs ys y)
  ]

  pub busy-none : (t : ℕ) (js : List ℕ) (y : ℕ) → All (λ j. y ≤ q j) js → busy t js y ≡ t
  busy-none t [] y h = refl
  busy-none t (j ∷ js) y h = cond_both (ltb (q j) y) _ _ (λ n. n ≡ t)
      (λ e. absurd (omega (arith, ltb-true (q j) y e, All-head (λ j. y ≤ q j) j js h))) (λ _. busy-none t js y (All-tail (λ j. y ≤ q j) j js h))

  pub busy-done : (t : ℕ) (js : List ℕ) (y : ℕ) → busy t js y ≤ done t js
  busy-done t [] y = omega arith
  busy-done t (j ∷ js) y = cond_both (ltb (q j) y) _ _ (λ n. n ≤ done (max t (q j) + p j) js)
      (λ _. busy-done (max t (q j) + p j) js y) (λ _. le_trans (busy-done t js y) (done-mono t (max t (q j) + p j) js (more t (q j) (p j))))

  pub busy-without : (t : ℕ) (xs : List ℕ) (j : ℕ) (ys : List ℕ) (y : ℕ) → busy t (xs ++ ys) y ≤ busy t (xs ++ j ∷ ys) y
  busy-without t xs j ys y = subst (λ n. n ≤ busy t (xs ++ j ∷ ys) y) (sym (busy-append t xs ys y)) (subst (λ n. busy (busy t xs y) ys y ≤ n) (sym (busy-append t xs (j ∷ ys) y))
      (cond_both (ltb (q j) y) _ _ (λ n. busy (busy t xs y) ys y ≤ n) (λ _. busy-mono (busy t xs y) (max (busy t xs y) (q j) + p j) ys y (more (busy t xs y) (q j) (p j))) (λ _. omega arith)))

  -- ---- jobs that follow each other without idle time
  pub Follow-append : (t : ℕ) (xs ys : List ℕ) → Follow q p t (xs ++ ys) → Follow q p t xs × Follow q p (t + sum_by p xs) ys
  Follow-append t [] ys h = (tt, subst (λ n. Follow q p n ys) (sym (add-zero t)) h)
  Follow-append t (x ∷ xs) ys h =
      let rest = Follow-append (t + p x) xs ys h.1 in
      let same : t + p x + sum_by p xs ≡ t + sum_by p (x ∷ xs) = omega (arith, sum_by-cons p x xs) in
      ((h.0, rest.0), subst (λ n. Follow q p n ys) same rest.1)

  pub Follow-from_near : (t : ℕ) (js : List ℕ) → ((k : ℕ) → k < length js → q (get_or js k 0) ≤ t + sum_by p (take k js)) → Follow q p t js
  Follow-from_near t [] h = tt
  Follow-from_near t (j ∷ js) h = (omega (arith, h 0 (omega arith)), Follow-from_near (t + p j) js (λ k l. omega (arith, h (suc k) (omega (arith, l)), sum_by-cons p j (take k js))))

  pub Follow-heads : (t : ℕ) (js : List ℕ) → Follow q p t js → All (λ j. q j ≤ t + sum_by p js) js
  Follow-heads t [] f = All-nil _
  Follow-heads t (j ∷ js) f =
      let same : t + p j + sum_by p js ≡ t + sum_by p (j ∷ js) = omega (arith, sum_by-cons p j js) in
      All-cons (λ k. q k ≤ t + sum_by p (j ∷ js)) j js (omega (arith, f.0)) (subst (λ n. All (λ k. q k ≤ n) js) same (Follow-heads (t + p j) js f.1))

  -- an interval in which the earliest schedule is idle does not lie before the end of jobs that follow each other and begin before it
  past : (t s x y : ℕ) (js cs : List ℕ) → Follow q p t js → t ≤ s → x < y → busy s (js ++ cs) y ≤ x → t + sum_by p js ≤ x
  past t s x y [] cs f h l i = omega (arith, h, busy-after s cs y, i)
  past t s x y (j ∷ js) cs f h l i =
      let early : q j < y = omega (arith, f.0, h, busy-after s (j ∷ js ++ cs) y, i, l) in
      let now : busy (max s (q j) + p j) (js ++ cs) y ≤ x = subst (λ b. cond b (busy (max s (q j) + p j) (js ++ cs) y) (busy s (js ++ cs) y) ≤ x) (lt-ltb _ _ early) i in
      omega (arith, past (t + p j) (max s (q j) + p j) x y js cs f.1 (omega (arith, h)) l now, sum_by-cons p j js)

  -- it lies before or after the first block
  pub around : (h x y : ℕ) (js cs : List ℕ) → 0 < length js → h ≡ q (get_or js 0 0) → Follow q p h js → x < y → busy 0 (js ++ cs) y ≤ x → (y ≤ h) ⊎ (h + sum_by p js ≤ x)
  around h x y [] cs some e f l i = absurd (omega (arith, some))
  around h x y (j ∷ js) cs some e f l i = elim (cases_lt h y) [
    | inl early ↦
        let test : q j < y = omega (arith, e, early) in
        let now : busy (max 0 (q j) + p j) (js ++ cs) y ≤ x = subst (λ b. cond b (busy (max 0 (q j) + p j) (js ++ cs) y) (busy 0 (js ++ cs) y) ≤ x) (lt-ltb _ _ test) i in
        inr (omega (arith, past (h + p j) (max 0 (q j) + p j) x y js cs f.1 (omega (arith, e)) l now, sum_by-cons p j js))
    | inr late ↦ inl (omega (arith, late))
  ]

  -- ---- the gaps
  abbrev Lies : ℕ → ℕ → Piece → Type 0
  Lies from to g = (from ≤ start g) × (finish g ≤ to)

  pub gaps-inside : (job t e : ℕ) (ys : List ℕ) → done t ys ≤ e → All (Lies t e) (gaps q p job t ys e)
  gaps-inside job t e [] h = gap-All (Lies t e) job t e (λ l. (omega arith, omega arith))
  gaps-inside job t e (j ∷ ys) h =
      let after = done-after (max t (q j) + p j) ys in
      All-append (Lies t e) (gap job t (q j)) (gaps q p job (max t (q j) + p j) ys e) (gap-All (Lies t e) job t (q j) (λ l. (omega arith, omega (arith, after, h))))
      (All-weaker (Lies (max t (q j) + p j) e) (Lies t e) (λ g l. (le_trans (more t (q j) (p j)) l.0, l.1)) (gaps q p job (max t (q j) + p j) ys e) (gaps-inside job (max t (q j) + p j) e ys h))

  pub gaps-made : (job t e : ℕ) (ys : List ℕ) → All (λ g. (g ≡ piece job (start g) (finish g)) × (start g < finish g)) (gaps q p job t ys e)
  gaps-made job t e [] = gap-All (λ g. (g ≡ piece job (start g) (finish g)) × (start g < finish g)) job t e (λ l. (refl, l))
  gaps-made job t e (j ∷ ys) =
      All-append (λ g. (g ≡ piece job (start g) (finish g)) × (start g < finish g)) (gap job t (q j)) (gaps q p job (max t (q j) + p j) ys e)
      (gap-All (λ g. (g ≡ piece job (start g) (finish g)) × (start g < finish g)) job t (q j) (λ l. (refl, l)))
      (gaps-made job (max t (q j) + p j) e ys)

  pub gaps-apart : (job t e : ℕ) (ys : List ℕ) → done t ys ≤ e → AllPairs (IsApart start finish) (gaps q p job t ys e)
  gaps-apart job t e [] h = gap-apart job t e
  gaps-apart job t e (j ∷ ys) h =
      AllPairs-append (IsApart start finish) (gap job t (q j)) (gaps q p job (max t (q j) + p j) ys e) (gap-apart job t (q j)) (gaps-apart job (max t (q j) + p j) e ys h)
      (gap-All (λ g. All (IsApart start finish g) (gaps q p job (max t (q j) + p j) ys e)) job t (q j) (λ l.
      All-weaker (Lies (max t (q j) + p j) e) (IsApart start finish (piece job t (q j)))
      (λ g l. inl (le_trans (head_first t (q j) (p j)) l.0)) (gaps q p job (max t (q j) + p j) ys e) (gaps-inside job (max t (q j) + p j) e ys h)))

  gap-size : (job a b : ℕ) → sum_by (size_of start finish) (gap job a b) ≡ b - a
  gap-size job a b = cond_both (ltb a b) (piece job a b ∷ []) [] (λ x. sum_by (size_of start finish) x ≡ b - a)
      (λ e. omega (arith, sum_by-cons (size_of start finish) (piece job a b) [])) (λ e. omega (arith, ltb-false a b e))

  -- gaps and jobs fill the time
  pub gaps-size : (job t e : ℕ) (ys : List ℕ) → done t ys ≤ e → t + sum_by (size_of start finish) (gaps q p job t ys e) + sum_by p ys ≡ e
  gaps-size job t e [] h = omega (arith, gap-size job t e, h)
  gaps-size job t e (j ∷ ys) h =
      let rest = gaps-size job (max t (q j) + p j) e ys h in
      let both = sum_by-append (size_of start finish) (gap job t (q j)) (gaps q p job (max t (q j) + p j) ys e) in
      omega (arith, sum_by-cons p j ys, both, gap-size job t (q j), rest)

  pub gaps-few : (job t e : ℕ) (ys : List ℕ) → length (gaps q p job t ys e) ≤ length ys + 1
  gaps-few job t e [] = gap-few job t e
  gaps-few job t e (j ∷ ys) = omega (arith, length-append (gap job t (q j)) (gaps q p job (max t (q j) + p j) ys e), gap-few job t (q j), gaps-few job (max t (q j) + p j) e ys)

  -- the earliest schedule of the jobs is idle in the gaps that they leave, with later jobs after the end
  abbrev Idle : ℕ → List ℕ → Piece → Type 0
  Idle s js g = busy s js (finish g) ≤ start g

  pub gaps-idle : (job s t e : ℕ) (ys cs : List ℕ) → s ≤ t → AllPairs (λ j k. q j ≤ q k) (ys ++ cs) → All (λ c. e < q c) cs → All (Idle s (ys ++ cs)) (gaps q p job t ys e)
  gaps-idle job s t e [] cs h sorted later = gap-All (Idle s cs) job t e (λ l. omega (arith, busy-none s cs e (All-weaker (λ c. e < q c) (λ c. e ≤ q c) (λ c m. omega (arith, m)) cs later), h))
  gaps-idle job s t e (j ∷ ys) cs h sorted later =
      All-append (Idle s (j ∷ ys ++ cs)) (gap job t (q j)) (gaps q p job (max t (q j) + p j) ys e)
      (gap-All (Idle s (j ∷ ys ++ cs)) job t (q j)
      (λ l. omega (arith, busy-none s (j ∷ ys ++ cs) (q j) (All-cons (λ k. q j ≤ q k) j (ys ++ cs) (omega arith) (AllPairs-head (λ j k. q j ≤ q k) j (ys ++ cs) sorted)), h)))
      (All-weaker (Idle (max s (q j) + p j) (ys ++ cs)) (Idle s (j ∷ ys ++ cs))
      (λ g l. cond_both (ltb (q j) (finish g)) _ _ (λ n. n ≤ start g) (λ _. l)
      (λ _. le_trans (busy-mono s (max s (q j) + p j) (ys ++ cs) (finish g) (more s (q j) (p j))) l)) (gaps q p job (max t (q j) + p j) ys e)
      (gaps-idle job (max s (q j) + p j) (max t (q j) + p j) e ys cs (omega (arith, h)) (AllPairs-tail (λ j k. q j ≤ q k) j (ys ++ cs) sorted) later))
