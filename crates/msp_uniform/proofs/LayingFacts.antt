-- A job is laid over one segment after another.
use Rattle.std.proofs.Common.{◌≡◌, ℕ, zero, suc, ◌+◌, ◌*◌, ◌-◌, ◌/◌, ◌<◌, ◌≤◌, ◌⊎◌, min, inl, inr, Bool, false, true, List, [], ◌∷◌, ◌++◌, ◌∙◌, length, drop, All, refl, sym, ap}
use Rattle.std.proofs.Common.{append-nil, append_assoc, length-drop, subst, subst₂, arith}
use Rattle.std.specs.Int.{◌∣◌}
use Rattle.std.proofs.Math.Nat.{div-mul_cancel}
use Rattle.std.proofs.lemmas.List.{length-append, nil_from_length}
use Rattle.std.proofs.lemmas.List.Elements.{All-head}
use Rattle.std.proofs.lemmas.Nat.Gcd.{dvd-zero}
use Rattle.msp_instance.proofs.MultipleLemmas.{All-append_left}
use Rattle.msp_uniform.specs.declared.segments.Segment.{Segment}
use Rattle.msp_uniform.specs.Segments.{place_at, IsLaid, IsTaken, CanGain, HasPlaces, HasTaken, IsFirst, IsSecond, rate_at, gain_at, AreFew, AreLaid, IsOneLaid, IsFirstLaid, IsLaying, AreLaidUpTo}
use Rattle.msp_uniform.specs.Plans.{IsLaidHere}
use Rattle.msp_uniform.proofs.LaidFacts.{IsLaid-append, gained-append}
use Rattle.msp_uniform.proofs.OrderFacts.{All-append_right, IsLaid-lengths, AreOrdered-next}
use native.Mathlib.Nat.{eq-zero-or-pos}

module _ (swap : Bool) (speed : ℕ → ℕ) (job r left : ℕ) (x : Segment) (fs ss : List Segment) (g : ℕ) (is : g ≡ gain_at swap speed r x) where
  pub IsOneLaid-whole : (a : Segment) (fs' : List Segment)
      → x.length * g ≤ left → IsTaken job r x.length x a → fs' ≡ fs ++ a ∷ [] → IsOneLaid swap speed job r left (left - x.length * g) x fs ss fs' ss
  IsOneLaid-whole a fs' l t e = record {
    firsts_new = a ∷ [];
    seconds_new = [];
    firsts_are = e;
    seconds_are = sym (append-nil ss);
    part = a.length;
    laid = IsLaid.first (subst (λ n. IsTaken job r n x a) (sym t.long) t) t.long IsLaid.none;
    gains = omega (arith, ap (λ n. n * gain_at swap speed r x) t.long, ap (λ n. x.length * n) is, l);
    enough = λ _. ap (λ n. left - x.length * n) is;
    short = λ m. absurd (omega (arith, m, l, ap (λ n. x.length * n) is));
    few = inl (omega arith);
  }

  pub must_divide : (x.length * gain_at swap speed r x ≤ left) ⊎ ((left < x.length * gain_at swap speed r x) × (gain_at swap speed r x ∣ left)) → left < x.length * g → gain_at swap speed r x ∣ left
  must_divide (inl l) m = absurd (omega (arith, l, m, ap (λ n. x.length * n) is))
  must_divide (inr d) m = d.1

  module _ (short : left < x.length * g) (whole : gain_at swap speed r x ∣ left) where
    product : left / g * g ≡ left
    product = div-mul_cancel g (subst (λ v. v ∣ left) (sym is) whole)

    less : left / g < x.length
    less = by (left / g) g x.length product short
      where
        by : (q g n : ℕ) → q * g ≡ left → left < n * g → q < n
        by q g n e l = grind arith

    pub IsOneLaid-rest : (b : Segment) (ss' : List Segment)
        → left / g ≡ 0 → b.length ≡ x.length - left / g → IsSecond swap job r x b → ss' ≡ ss ++ b ∷ [] → IsOneLaid swap speed job r left 0 x fs ss fs ss'
    IsOneLaid-rest b ss' z e t f = record {
      firsts_new = [];
      seconds_new = b ∷ [];
      firsts_are = sym (append-nil fs);
      seconds_are = f;
      part = 0;
      laid = IsLaid.second t (omega (arith, e, z)) IsLaid.none;
      gains = omega (arith, ap (λ n. n * g) z, product);
      enough = λ l. absurd (omega (arith, l, short, ap (λ n. x.length * n) is));
      short = λ _. refl;
      few = inl (omega arith);
    }

    pub IsOneLaid-both : (a b : Segment) (fs' ss' : List Segment) → 0 < left / g → IsTaken job r (left / g) x a
        → fs' ≡ fs ++ a ∷ [] → b.length ≡ x.length - left / g → IsSecond swap job r x b → ss' ≡ ss ++ b ∷ [] → IsOneLaid swap speed job r left 0 x fs ss fs' ss'
    IsOneLaid-both a b fs' ss' p t d e u f = record {
      firsts_new = a ∷ [];
      seconds_new = b ∷ [];
      firsts_are = d;
      seconds_are = f;
      part = a.length;
      laid = IsLaid.both (subst (λ n. IsTaken job r n x a) (sym t.long) t) u (omega (arith, t.long, p)) (omega (arith, e, less)) (omega (arith, t.long, e, less)) IsLaid.none;
      gains = omega (arith, ap (λ n. n * gain_at swap speed r x) t.long, ap (λ n. left / g * n) is, product);
      enough = λ l. absurd (omega (arith, l, short, ap (λ n. x.length * n) is));
      short = λ _. refl;
      few = inr (some (left / g) g product p short, refl, omega arith);
    }
      where
        some : (q g : ℕ) → q * g ≡ left → 0 < q → left < x.length * g → 1 ≤ left
        some q zero e l m = absurd (omega (arith, m))
        some q (suc g) e l m = omega (arith, e, l)

    pub IsOneLaid-parted : (b : Segment) (fs' ss' : List Segment) → (left / g ≡ 0 → fs' ≡ fs) → (0 < left / g → HasTaken job r (left / g) x fs fs')
        → b.length ≡ x.length - left / g → IsSecond swap job r x b → ss' ≡ ss ++ b ∷ [] → IsOneLaid swap speed job r left 0 x fs ss fs' ss'
    IsOneLaid-parted b fs' ss' none some e t f = elim (eq-zero-or-pos (left / g)) [
      | inl z ↦ subst (λ l. IsOneLaid swap speed job r left 0 x fs ss l ss') (sym (none z)) (IsOneLaid-rest b ss' z e t f)
      | inr p ↦ let (a, taken, is) = some p in IsOneLaid-both a b fs' ss' p taken is e t f
    ]

module _ (swap : Bool) (speed : ℕ → ℕ) (job r whole : ℕ) where
  pub AreLaid-first : (xs : List Segment) → AreLaid swap speed job r whole whole [] [] []
  AreLaid-first xs = record { parts = []; laid = IsLaid.none; gains = omega arith; order = λ _. record { order = tt; whole = λ _. refl }; few = inl (omega arith) }

  pub AreLaid-next : (left after : ℕ) (xs : List Segment) (x : Segment) (fs ss fs' ss' : List Segment) → AreLaid swap speed job r whole left xs fs ss
      → IsOneLaid swap speed job r left after x fs ss fs' ss' → AreLaid swap speed job r whole after (xs ++ x ∷ []) fs' ss'
  AreLaid-next left after xs x fs ss fs' ss' h o = record {
    parts = h.parts ++ o.part ∷ [];
    laid = subst₂ (λ f s. IsLaid (IsFirst job r) (IsSecond swap job r) (h.parts ++ o.part ∷ []) (xs ++ x ∷ []) f s) (sym o.firsts_are) (sym o.seconds_are) (IsLaid-append h.laid o.laid);
    gains = omega (arith, gained-append (gain_at swap speed r) h.laid (o.part ∷ []) (x ∷ []), h.gains, o.gains);
    order = λ p. AreOrdered-next left after h.parts xs x o.part (gain_at swap speed r x) (IsLaid-lengths h.laid)
        (All-head (λ y. 1 ≤ gain_at swap speed r y) x [] (All-append_right (λ y. 1 ≤ gain_at swap speed r y) xs (x ∷ []) p))
        (h.order (All-append_left (λ y. 1 ≤ gain_at swap speed r y) xs (x ∷ []) p)) o.gains o.enough o.short;
    few = by h.few o.few;
  }
    where
      many : length fs' + length ss' ≡ length fs + length ss + (length o.firsts_new + length o.seconds_new)
      many = omega (arith, ap length o.firsts_are, ap length o.seconds_are, length-append fs o.firsts_new, length-append ss o.seconds_new)

      by : AreFew (length fs + length ss) (length xs) left → (length o.firsts_new + length o.seconds_new ≤ 1) ⊎ ((1 ≤ left) × (after ≡ 0) × (length o.firsts_new + length o.seconds_new ≤ 2))
          → AreFew (length fs' + length ss') (length (xs ++ x ∷ [])) after
      by (inl a) (inl b) = inl (omega (arith, many, length-append xs (x ∷ [])))
      by (inl a) (inr b) = inr (b.1, omega (arith, many, b.2, length-append xs (x ∷ [])))
      by (inr a) (inl b) = inr (omega (arith, a.0, o.gains), omega (arith, many, a.1, length-append xs (x ∷ [])))
      by (inr a) (inr b) = absurd (omega (arith, a.0, b.0))

  -- nothing more is needed
  pub CanGain-nothing : (xs : List Segment) → CanGain (gain_at swap speed r) 0 xs
  CanGain-nothing [] = refl
  CanGain-nothing (x ∷ xs) = by (x.length * gain_at swap speed r x) (CanGain-nothing xs)
    where
      by : (n : ℕ) → CanGain (gain_at swap speed r) 0 xs → ((n ≤ 0) × CanGain (gain_at swap speed r) (0 - n) xs) ⊎ ((0 < n) × (gain_at swap speed r x ∣ 0))
      by zero c = inl (omega arith, subst (λ k. CanGain (gain_at swap speed r) k xs) (omega arith) c)
      by (suc n) c = inr (omega arith, dvd-zero _)

  -- what one segment leaves
  pub CanGain-next : (left after : ℕ) (x : Segment) (xs : List Segment) (fs ss fs' ss' : List Segment)
      → CanGain (gain_at swap speed r) left (x ∷ xs) → IsOneLaid swap speed job r left after x fs ss fs' ss' → CanGain (gain_at swap speed r) after xs
  CanGain-next left after x xs fs ss fs' ss' (inl (l, c)) o = subst (λ k. CanGain (gain_at swap speed r) k xs) (sym (o.enough l)) c
  CanGain-next left after x xs fs ss fs' ss' (inr (l, d)) o = subst (λ k. CanGain (gain_at swap speed r) k xs) (sym (o.short l)) (CanGain-nothing xs)

-- the place that the first part takes
pub has_place : (swap : Bool) (m r : ℕ) (x : Segment) → HasPlaces m swap r x → (r < length x.body.value.free) × (place_at x r < m)
has_place true m r x h = (omega (arith, h.0), h.1)
has_place false m r x h = h

-- what the next segment can gain
pub gains_first : (gain : Segment → ℕ) (left : ℕ) (x : Segment) (xs : List Segment)
    → CanGain gain left (x ∷ xs) → (x.length * gain x ≤ left) ⊎ ((left < x.length * gain x) × (gain x ∣ left))
gains_first gain left x xs (inl a) = inl a.0
gains_first gain left x xs (inr b) = inr b

-- ---- the same parts after others
module _ (swap : Bool) (speed : ℕ → ℕ) (job r left after : ℕ) (x : Segment) (fs fs' seconds : List Segment) (o : IsOneLaid swap speed job r left after x fs [] fs' seconds) where
  pub IsOneLaid-among : (gs gs' ss ss' : List Segment) → gs' ≡ gs ++ o.firsts_new → ss' ≡ ss ++ seconds → IsOneLaid swap speed job r left after x gs ss gs' ss'
  IsOneLaid-among gs gs' ss ss' d e = record {
    firsts_new = o.firsts_new;
    seconds_new = o.seconds_new;
    firsts_are = d;
    seconds_are = e ∙ ap (λ l. ss ++ l) o.seconds_are;
    part = o.part;
    laid = o.laid;
    gains = o.gains;
    enough = o.enough;
    short = o.short;
    few = o.few;
  }

  pub IsOneLaid-behind : (ss ss' : List Segment) → ss' ≡ ss ++ seconds → IsOneLaid swap speed job r left after x fs ss fs' ss'
  IsOneLaid-behind ss ss' = IsOneLaid-among fs fs' ss ss' o.firsts_are

-- ---- the first of late segments, and those after it
module _ (speed : ℕ → ℕ) (job r : ℕ) where
  pub IsFirstLaid-made : (left after : ℕ) (x : Segment) (early late early' late' seconds : List Segment) → IsOneLaid false speed job r left after x early [] early' seconds
      → length seconds + min 1 after ≤ 1 → CanGain (rate_at speed r) left (x ∷ late) → late' ≡ seconds ++ late → IsFirstLaid speed job r left after x early late early' late'
  IsFirstLaid-made left after x early late early' late' seconds o few c e = record {
    seconds = seconds;
    laid = o;
    late_is = e;
    few = few;
    more = CanGain-next false speed job r left left after x late early [] early' seconds c o;
  }

  -- nothing is needed of a segment
  IsOneLaid-kept : (x : Segment) (fs ss : List Segment) → IsOneLaid false speed job r 0 0 x fs ss fs (ss ++ x ∷ [])
  IsOneLaid-kept x fs ss = record {
    firsts_new = [];
    seconds_new = x ∷ [];
    firsts_are = sym (append-nil fs);
    seconds_are = refl;
    part = 0;
    laid = IsLaid.second (record { long = refl; jobs = refl; free = refl }) refl IsLaid.none;
    gains = omega arith;
    enough = λ l. omega arith;
    short = λ l. refl;
    few = inl (omega arith);
  }

  module _ (whole : ℕ) where
    AreLaid-extend : (ys done fs ss : List Segment) → AreLaid false speed job r whole 0 done fs ss → AreLaid false speed job r whole 0 (done ++ ys) fs (ss ++ ys)
    AreLaid-extend [] done fs ss h = subst₂ (λ d s. AreLaid false speed job r whole 0 d fs s) (sym (append-nil done)) (sym (append-nil ss)) h
    AreLaid-extend (y ∷ ys) done fs ss h = subst₂ (λ d s. AreLaid false speed job r whole 0 d fs s) (append_assoc done (y ∷ []) ys) (append_assoc ss (y ∷ []) ys)
        (AreLaid-extend ys (done ++ y ∷ []) fs (ss ++ y ∷ []) (AreLaid-next false speed job r whole 0 0 done y fs ss fs (ss ++ y ∷ []) h (IsOneLaid-kept y fs ss)))

    pub IsLaying-start : (xs early : List Segment) → CanGain (rate_at speed r) whole xs → IsLaying speed job r whole whole xs early early xs
    IsLaying-start xs early c = record {
      done = [];
      others = xs;
      firsts = [];
      seconds = [];
      all = refl;
      laid = AreLaid-first false speed job r whole xs;
      early_is = sym (append-nil early);
      late_is = refl;
      few = omega arith;
      more = c;
    }

    module _ (left : ℕ) (xs early0 early : List Segment) where
      -- the segment that is next
      module _ (x : Segment) (late late0 : List Segment) (next : late0 ≡ x ∷ late) (some : 1 ≤ left) (h : IsLaying speed job r whole left xs early0 early late0) where
        none_late : h.seconds ≡ []
        none_late = nil_from_length h.seconds (omega (arith, some, h.few))

        others_are : h.others ≡ x ∷ late
        others_are = sym (h.late_is ∙ ap (λ l. l ++ h.others) none_late) ∙ next

        pub laying_next : (P : Segment → Type 0) → All P xs → P x
        laying_next P a = All-head P x late (All-append_right P h.done (x ∷ late) (subst (λ ys. All P (h.done ++ ys)) others_are (subst (All P) h.all a)))

        pub laying_gains : CanGain (rate_at speed r) left (x ∷ late)
        laying_gains = subst (CanGain (rate_at speed r) left) others_are h.more

        pub laying_fewer : (after : ℕ) (early' late' : List Segment) → IsFirstLaid speed job r left after x early late early' late' → length late' + min 1 after < length late0 + min 1 left
        laying_fewer after early' late' f = omega (arith, ap length next, ap length f.late_is, length-append f.seconds late, f.few, some)

        pub IsLaying-next : (after : ℕ) (early' late' : List Segment) → IsFirstLaid speed job r left after x early late early' late' → IsLaying speed job r whole after xs early0 early' late'
        IsLaying-next after early' late' f = record {
          done = h.done ++ x ∷ [];
          others = late;
          firsts = h.firsts ++ f.laid.firsts_new;
          seconds = f.seconds;
          all = h.all ∙ ap (λ l. h.done ++ l) others_are ∙ sym (append_assoc h.done (x ∷ []) late);
          laid = AreLaid-next false speed job r whole left after h.done x h.firsts [] (h.firsts ++ f.laid.firsts_new) f.seconds
              (subst (AreLaid false speed job r whole left h.done h.firsts) none_late h.laid)
              (IsOneLaid-among false speed job r left after x early early' f.seconds f.laid h.firsts _ [] f.seconds refl refl);
          early_is = f.laid.firsts_are ∙ ap (λ l. l ++ f.laid.firsts_new) h.early_is ∙ append_assoc early0 h.firsts f.laid.firsts_new;
          late_is = f.late_is;
          few = f.few;
          more = f.more;
        }

      pub IsLaying-end : (late : List Segment) → left ≡ 0 → IsLaying speed job r whole left xs early0 early late → IsLaidHere speed job r whole early0 xs early late
      IsLaying-end late e h = record {
        firsts = h.firsts;
        laid = subst₂ (λ ys l. AreLaid false speed job r whole 0 ys h.firsts l) (sym h.all) (sym h.late_is)
            (AreLaid-extend h.others h.done h.firsts h.seconds (subst (λ n. AreLaid false speed job r whole n h.done h.firsts h.seconds) e h.laid));
        early_is = h.early_is;
      }

      -- where no segment is late, nothing is left to gain
      pub IsLaying-none : (late late' : List Segment)
          → late ≡ late' → late' ≡ drop 1 late → IsLaying speed job r whole left xs early0 early late → IsLaidHere speed job r whole early0 xs early late'
      IsLaying-none late late' e f h =
          let none = nil_from_length h.others (omega (arith, ap length h.late_is, length-append h.seconds h.others, ap length e, ap length f, length-drop 1 late)) in
          subst (IsLaidHere speed job r whole early0 xs early) e (IsLaying-end late (subst (CanGain (rate_at speed r) left) none h.more) h)

-- ---- a job over all segments
module _ (speed : ℕ → ℕ) (job r whole : ℕ) where
  pub AreLaidUpTo-start : (xs fs ss : List Segment) → fs ≡ [] → ss ≡ [] → CanGain (gain_at true speed r) whole xs → AreLaidUpTo speed job r whole whole xs xs fs ss
  AreLaidUpTo-start xs fs ss e f c = record {
    done = [];
    all = refl;
    laid = subst₂ (AreLaid true speed job r whole whole []) (sym e) (sym f) (AreLaid-first true speed job r whole xs);
    more = c;
  }

  module _ (left : ℕ) (xs fs ss : List Segment) where
    pub AreLaidUpTo-end : (ahead ahead' : List Segment)
        → ahead ≡ ahead' → ahead' ≡ drop 1 ahead → AreLaidUpTo speed job r whole left xs ahead fs ss → AreLaid true speed job r whole 0 xs fs ss
    AreLaidUpTo-end ahead ahead' e f h =
        let none = nil_from_length ahead (omega (arith, ap length e, ap length f, length-drop 1 ahead)) in
        let over : left ≡ 0 = subst (CanGain (gain_at true speed r) left) none h.more in
        subst₂ (λ l ys. AreLaid true speed job r whole l ys fs ss) over (sym (h.all ∙ ap (λ l. h.done ++ l) none ∙ append-nil h.done)) h.laid

    module _ (x : Segment) (ahead ahead0 : List Segment) (next : ahead0 ≡ x ∷ ahead) (h : AreLaidUpTo speed job r whole left xs ahead0 fs ss) where
      are_next : xs ≡ h.done ++ (x ∷ ahead)
      are_next = h.all ∙ ap (λ l. h.done ++ l) next

      gains_next : CanGain (gain_at true speed r) left (x ∷ ahead)
      gains_next = subst (CanGain (gain_at true speed r) left) next h.more

      pub laid_next : (P : Segment → Type 0) → All P xs → P x
      laid_next P a = All-head P x ahead (All-append_right P h.done (x ∷ ahead) (subst (All P) are_next a))

      pub laid_gains : (x.length * gain_at true speed r x ≤ left) ⊎ ((left < x.length * gain_at true speed r x) × (gain_at true speed r x ∣ left))
      laid_gains = gains_first (gain_at true speed r) left x ahead gains_next

      pub AreLaidUpTo-next : (after : ℕ) (fs' ss' : List Segment) → IsOneLaid true speed job r left after x fs ss fs' ss' → AreLaidUpTo speed job r whole after xs ahead fs' ss'
      AreLaidUpTo-next after fs' ss' o = record {
        done = h.done ++ x ∷ [];
        all = are_next ∙ sym (append_assoc h.done (x ∷ []) ahead);
        laid = AreLaid-next true speed job r whole left after h.done x fs ss fs' ss' h.laid o;
        more = CanGain-next true speed job r whole left after x ahead fs ss fs' ss' gains_next o;
      }
