-- The pieces of segments, the latest first, are those of one machine after another in another order.
use Rattle.std.proofs.Common.{◌≡◌, ◌≢◌, ℕ, zero, suc, ◌+◌, ◌-◌, ◌<◌, ◌≤◌, true, false, cond, eqb, List, [], ◌∷◌, ◌++◌, length, get_or, take, drop, replicate, set, sum_by}
use Rattle.std.proofs.Common.{All, IsPermutation, inl, inr, refl, sym, ap, subst, subst₂, ◌∙◌, append_assoc, arith}
use Rattle.std.proofs.lemmas.Bool.{cond_both, cond-true, cases_Bool, eqb-true, eq-eqb, ne_eqb, cases_eq}
use Rattle.std.proofs.lemmas.List.{append-nil, get_or-replicate, drop_more, length-set, get_or-set_same, get_or-set_other, get_or_default}
use Rattle.std.proofs.lemmas.List.Elements.{All-head, All-tail}
use Rattle.std.proofs.lemmas.List.Sorted.{IsPermutation-refl, IsPermutation-sym, IsPermutation-trans, IsPermutation-append, IsPermutation-append_left, IsPermutation-append_right}
use Rattle.std.proofs.lemmas.List.Sorted.{IsPermutation-append_comm}
use Rattle.msp_class.proofs.Sums.{sum_by-take_more}
use Rattle.msp_pieces.specs.declared.Piece.{Piece}
use Rattle.msp_uniform.specs.declared.segments.Segment.{Segment}
use Rattle.msp_uniform.specs.Runs.{piece_on, part_on, runs_from, runs, begun, jobs_before, IsNextEnds}
use Rattle.msp_uniform.specs.Segments.{at, job_on}
use Rattle.msp_uniform.proofs.SegmentPieces.{long}

abbrev pub jobs_of : Segment → List ℕ
jobs_of x = x.body.value.jobs

-- the moment up to which a machine has the job j in segments from the moment t on
abbrev pub until : ℕ → ℕ → ℕ → List Segment → ℕ
until machine j t [] = t
until machine j t (x ∷ xs) = cond (eqb (job_on x machine) j) (until machine j (t + long x) xs) t

-- all pieces of m machines that begin at the moment t or later, the latest first
abbrev pub latest_first : ℕ → ℕ → List ℕ → ℕ → List Segment → List Piece
latest_first none m before t [] = []
latest_first none m before t (x ∷ xs) = latest_first none m (jobs_of x) (t + long x) xs ++ begun none before (jobs_of x) t (λ i. until i (job_on x i) (t + long x) xs) m

-- the pieces of one machine that begin at t or later, where it had the job j before
abbrev own : ℕ → ℕ → ℕ → ℕ → List Segment → List Piece
own n i j t [] = []
own n i j t (x ∷ xs) = own n i (job_on x i) (t + long x) xs ++ cond (eqb (job_on x i) j) [] (part_on n i (job_on x i) t (until i (job_on x i) (t + long x) xs))

-- the same of the first machines, one after another
abbrev owns : ℕ → List ℕ → ℕ → List Segment → ℕ → List Piece
owns n before t xs zero = []
owns n before t xs (suc m) = owns n before t xs m ++ own n m (at before m) t xs

four : {X : Type 0} (a b c d : List X) → IsPermutation ((a ++ b) ++ (c ++ d)) ((a ++ d) ++ (b ++ c))
four a b c d =
    subst (λ l. IsPermutation ((a ++ b) ++ (c ++ d)) l) (sym (append_assoc a d (b ++ c)))
    (subst (λ l. IsPermutation l (a ++ (d ++ (b ++ c)))) (sym (append_assoc a b (c ++ d)))
    (IsPermutation-append_right a (b ++ (c ++ d)) (d ++ (b ++ c))
    (subst (λ l. IsPermutation l (d ++ (b ++ c))) (append_assoc b c d) (IsPermutation-append_comm (b ++ c) d))))

module _ (n : ℕ) where
  -- ---- one machine
  module _ (i : ℕ) where
    own_is : (j a t : ℕ) (xs : List Segment) → IsPermutation (runs_from n i j a t xs) (part_on n i j a (until i j t xs) ++ own n i j t xs)
    own_is j a t [] = subst (IsPermutation (part_on n i j a t)) (sym (append-nil (part_on n i j a t))) (IsPermutation-refl (part_on n i j a t))
    own_is j a t (x ∷ xs) =
        let first : List Piece = part_on n i (job_on x i) t (until i (job_on x i) (t + long x) xs) in
        let rest : List Piece = own n i (job_on x i) (t + long x) xs in
        elim (cases_Bool (eqb (job_on x i) j)) [
          | inl e ↦ rw e (subst (λ l. IsPermutation (runs_from n i j a (t + long x) xs) (part_on n i j a (until i j (t + long x) xs) ++ l))
              (sym (append-nil rest ∙ ap (λ k. own n i k (t + long x) xs) (eqb-true (job_on x i) j e))) (own_is j a (t + long x) xs))
          | inr e ↦ rw e (IsPermutation-append_right (part_on n i j a t) _ _
              (IsPermutation-trans _ _ _ (own_is (job_on x i) t (t + long x) xs) (IsPermutation-append_comm first rest)))
        ]

    part_none : (a b : ℕ) → part_on n i n a b ≡ []
    part_none a b = cond-true (eqb n n) [] (piece_on i n a b ∷ []) (eq-eqb n n refl)

  -- ---- all machines
  none_own : (before : List ℕ) (t m : ℕ) → owns n before t [] m ≡ []
  none_own before t zero = refl
  none_own before t (suc m) = append-nil (owns n before t [] m) ∙ none_own before t m

  begun_same : (before jobs : List ℕ) (t : ℕ) (f g : ℕ → ℕ) (m : ℕ) → ((i : ℕ) → i < m → f i ≡ g i) → begun n before jobs t f m ≡ begun n before jobs t g m
  begun_same before jobs t f g zero e = refl
  begun_same before jobs t f g (suc m) e =
      ap (λ k. cond (eqb (at jobs m) (at before m)) [] (part_on n m (at jobs m) t k) ++ begun n before jobs t f m) (e m (omega arith))
      ∙ ap (λ l. cond (eqb (at jobs m) (at before m)) [] (part_on n m (at jobs m) t (g m)) ++ l) (begun_same before jobs t f g m (λ i l. e i (omega (arith, l))))

  module _ (before : List ℕ) (t : ℕ) (x : Segment) (xs : List Segment) where
    abbrev ends : ℕ → ℕ
    ends i = until i (job_on x i) (t + long x) xs

    joined : (m : ℕ) → IsPermutation (owns n (jobs_of x) (t + long x) xs m ++ begun n before (jobs_of x) t ends m) (owns n before t (x ∷ xs) m)
    joined zero = IsPermutation-refl []
    joined (suc m) =
        IsPermutation-trans _ _ _
        (four (owns n (jobs_of x) (t + long x) xs m) (own n m (job_on x m) (t + long x) xs)
        (cond (eqb (job_on x m) (at before m)) [] (part_on n m (job_on x m) t (ends m))) (begun n before (jobs_of x) t ends m))
        (IsPermutation-append_left _ _ _ (joined m))

  latest_first_is : (m : ℕ) (before : List ℕ) (t : ℕ) (xs : List Segment) → IsPermutation (latest_first n m before t xs) (owns n before t xs m)
  latest_first_is m before t [] = subst (IsPermutation []) (sym (none_own before t m)) (IsPermutation-refl [])
  latest_first_is m before t (x ∷ xs) =
      IsPermutation-trans _ _ _ (IsPermutation-append_left _ _ _ (latest_first_is m (jobs_of x) (t + long x) xs)) (joined before t x xs m)

  runs_are_owns : (idle : List ℕ) (xs : List Segment) (m : ℕ) → ((i : ℕ) → i < m → at idle i ≡ n) → IsPermutation (runs n xs m) (owns n idle 0 xs m)
  runs_are_owns idle xs zero e = IsPermutation-refl []
  runs_are_owns idle xs (suc m) e = IsPermutation-append _ _ _ _ (runs_are_owns idle xs m (λ i l. e i (omega (arith, l)))) one
    where
      one : IsPermutation (runs_from n m n 0 0 xs) (own n m (at idle m) 0 xs)
      one =
          subst (λ j. IsPermutation (runs_from n m n 0 0 xs) (own n m j 0 xs)) (sym (e m (omega arith)))
          (subst (λ l. IsPermutation (runs_from n m n 0 0 xs) (l ++ own n m n 0 xs)) (part_none m 0 (until m n 0 xs)) (own_is m n 0 0 xs))

pub runs_latest_first : (n m : ℕ) (xs : List Segment) → IsPermutation (runs n xs m) (latest_first n m (replicate m n) 0 xs)
runs_latest_first n m xs =
    IsPermutation-trans _ _ _
    (runs_are_owns n (replicate m n) xs m (λ i l. get_or-replicate m i n 0 l))
    (IsPermutation-sym _ _ (latest_first_is n m (replicate m n) 0 xs))

-- ---- the walk over the segments
pub jobs_before_next : (idle : List ℕ) (xs : List Segment) (k : ℕ) (d : Segment) → k < length xs → jobs_before idle xs (suc k) ≡ jobs_of (get_or xs k d)
jobs_before_next idle [] k d l = absurd (omega (arith, l))
jobs_before_next idle (x ∷ xs) zero d l = refl
jobs_before_next idle (x ∷ xs) (suc k) d l = jobs_before_next (jobs_of x) xs k d (omega (arith, l))

-- how far the walk has come: the segments from the moment t on are done
pub record IsWalked (n m : ℕ) (idle : List ℕ) (xs : List Segment) (k t : ℕ) (ends : List ℕ) (pieces : List Piece) : Type 0 where
  pub moment : t ≡ sum_by long (take k xs)
  pub many : length ends ≡ m
  pub until_ends : (i : ℕ) → i < m → at ends i ≡ until i (at (jobs_before idle xs k) i) t (drop k xs)
  pub laid : pieces ≡ latest_first n m (jobs_before idle xs k) t (drop k xs)

module _ (n m : ℕ) (idle : List ℕ) (xs : List Segment) (k : ℕ) (d : Segment) (below : k < length xs) where
  abbrev pub here : Segment
  here = get_or xs k d

  abbrev pub behind : List Segment
  behind = drop (k + 1) xs

  abbrev pub begin : ℕ
  begin = sum_by long (take k xs)

  jobs_are : jobs_before idle xs (k + 1) ≡ jobs_of here
  jobs_are = let e : k + 1 ≡ suc k = omega arith in ap (jobs_before idle xs) e ∙ jobs_before_next idle xs k d below

  module _ (t : ℕ) (ends : List ℕ) (pieces : List Piece) (w : IsWalked n m idle xs (k + 1) t ends pieces) where
    pub moment_is : t ≡ begin + long here
    moment_is = w.moment ∙ sum_by-take_more long xs k d below

    ends_are : (i : ℕ) → i < m → at ends i ≡ until i (job_on here i) (begin + long here) behind
    ends_are i l = w.until_ends i l ∙ ap (λ js. until i (at js i) t behind) jobs_are ∙ ap (λ u. until i (job_on here i) u behind) moment_is

    abbrev before : List ℕ
    before = jobs_before idle xs k

    pub IsWalked-next : (new : List ℕ) (more : List Piece) → IsNextEnds (jobs_before idle xs k) (jobs_of here) begin ends new → length (jobs_of here) ≡ m
        → more ≡ pieces ++ begun n (jobs_before idle xs k) (jobs_of here) begin (at ends) m → IsWalked n m idle xs k begin new more
    IsWalked-next new more e all is = record {
      moment = refl;
      many = e.many ∙ w.many;
      until_ends = λ i l. subst (λ ys. at new i ≡ until i (at before i) begin ys) (sym (drop_more xs k d below)) (next i l);
      laid = subst (λ ys. more ≡ latest_first n m before begin ys) (sym (drop_more xs k d below)) (is ∙ together);
    }
      where
        next : (i : ℕ) → i < m → at new i ≡ until i (at before i) begin (here ∷ behind)
        next i l = e.each i (omega (arith, l, all)) ∙ elim (cases_Bool (eqb (job_on here i) (at before i))) [
          | inl same ↦ rw same (ends_are i l ∙ ap (λ j. until i j (begin + long here) behind) (eqb-true (job_on here i) (at before i) same))
          | inr same ↦ rw same refl
        ]

        together : pieces ++ begun n before (jobs_of here) begin (at ends) m ≡ latest_first n m before begin (here ∷ behind)
        together =
            ap (λ ps. ps ++ begun n before (jobs_of here) begin (at ends) m) (w.laid ∙ ap (λ js. latest_first n m js t behind) jobs_are ∙ ap (λ u. latest_first n m (jobs_of here) u behind) moment_is)
            ∙ ap (λ ps. latest_first n m (jobs_of here) (begin + long here) behind ++ ps)
            (begun_same n before (jobs_of here) begin (at ends) (λ i. until i (job_on here i) (begin + long here) behind) m ends_are)

-- ---- the walk over the machines, the last one first
-- how far it has come: so many machines are behind
pub record IsBack (n : ℕ) (before jobs : List ℕ) (t : ℕ) (old : List ℕ) (first : List Piece) (b : ℕ) (ends : List ℕ) (pieces : List Piece) : Type 0 where
  pub laid : pieces ++ begun n before jobs t (at old) (length jobs - b) ≡ first ++ begun n before jobs t (at old) (length jobs)
  pub many : length ends ≡ length old
  pub done : (i : ℕ) → length jobs ≤ b + i → i < length jobs → at ends i ≡ cond (eqb (at jobs i) (at before i)) (at old i) t
  pub same : (i : ℕ) → b + i < length jobs → at ends i ≡ at old i

module _ (n : ℕ) (before jobs : List ℕ) (t : ℕ) (old : List ℕ) (first : List Piece) where
  pub IsBack-start : IsBack n before jobs t old first 0 old first
  IsBack-start = record {
    laid = let e : length jobs - 0 ≡ length jobs = omega arith in ap (λ k. first ++ begun n before jobs t (at old) k) e;
    many = refl;
    done = λ i l k. absurd (omega (arith, l, k));
    same = λ i l. refl;
  }

  module _ (ends : List ℕ) (pieces : List Piece) where
    pub IsBack-end : (b : ℕ) → length jobs ≤ b → IsBack n before jobs t old first b ends pieces
        → (pieces ≡ first ++ begun n before jobs t (at old) (length jobs)) × IsNextEnds before jobs t old ends
    IsBack-end b l s =
        let e : length jobs - b ≡ 0 = omega (arith, l) in
        (sym (append-nil pieces) ∙ ap (λ k. pieces ++ begun n before jobs t (at old) k) (sym e) ∙ s.laid, record { many = s.many; each = λ i k. s.done i (omega (arith, l)) k })

    module _ (b m : ℕ) (is : m + (b + 1) ≡ length jobs) (s : IsBack n before jobs t old first b ends pieces) where
      next : length jobs - (b + 1) ≡ m
      next = omega (arith, is)

      whole : pieces ++ (cond (eqb (at jobs m) (at before m)) [] (part_on n m (at jobs m) t (at old m)) ++ begun n before jobs t (at old) m) ≡ first ++ begun n before jobs t (at old) (length jobs)
      whole = let now : suc m ≡ length jobs - b = omega (arith, is) in ap (λ k. pieces ++ begun n before jobs t (at old) k) now ∙ s.laid

      pub IsBack-kept : at jobs m ≡ at before m → IsBack n before jobs t old first (b + 1) ends pieces
      IsBack-kept e =
          let kept : eqb (at jobs m) (at before m) ≡ true = eq-eqb (at jobs m) (at before m) e in
          record {
            laid = ap (λ k. pieces ++ begun n before jobs t (at old) k) next
                ∙ subst (λ v. pieces ++ (cond v [] (part_on n m (at jobs m) t (at old m)) ++ begun n before jobs t (at old) m) ≡ first ++ begun n before jobs t (at old) (length jobs)) kept whole;
            many = s.many;
            done = λ i l k. elim (cases_eq i m) as (λ _. at ends i ≡ cond (eqb (at jobs i) (at before i)) (at old i) t) [
              | inl same ↦ subst (λ q. at ends q ≡ cond (eqb (at jobs q) (at before q)) (at old q) t) (sym same) (s.same m (omega (arith, is)) ∙ ap (λ v. cond v (at old m) t) (sym kept))
              | inr apart ↦ s.done i (omega (arith, l, is, apart)) k
            ];
            same = λ i l. s.same i (omega (arith, l));
          }

      pub IsBack-changed : (at jobs m ≢ at before m) → length ends ≡ length jobs → IsBack n before jobs t old first (b + 1) (set ends m t) (pieces ++ part_on n m (at jobs m) t (at ends m))
      IsBack-changed d many =
          let changed : eqb (at jobs m) (at before m) ≡ false = ne_eqb (at jobs m) (at before m) d in
          record {
            laid =
                ap (λ k. (pieces ++ part_on n m (at jobs m) t (at ends m)) ++ begun n before jobs t (at old) k) next
                ∙ append_assoc pieces (part_on n m (at jobs m) t (at ends m)) (begun n before jobs t (at old) m)
                ∙ ap (λ e. pieces ++ (part_on n m (at jobs m) t e ++ begun n before jobs t (at old) m)) (s.same m (omega (arith, is)))
                ∙ subst (λ v. pieces ++ (cond v [] (part_on n m (at jobs m) t (at old m)) ++ begun n before jobs t (at old) m) ≡ first ++ begun n before jobs t (at old) (length jobs)) changed whole;
            many = length-set ends m t ∙ s.many;
            done = λ i l k. elim (cases_eq i m) as (λ _. at (set ends m t) i ≡ cond (eqb (at jobs i) (at before i)) (at old i) t) [
              | inl same ↦ subst (λ q. at (set ends m t) q ≡ cond (eqb (at jobs q) (at before q)) (at old q) t)
                  (sym same) (get_or-set_same ends m t 0 (omega (arith, is, many)) ∙ ap (λ v. cond v (at old m) t) (sym changed))
              | inr apart ↦ get_or-set_other ends m i t 0 apart ∙ s.done i (omega (arith, l, is, apart)) k
            ];
            same = λ i l. get_or-set_other ends m i t 0 (λ e. absurd (omega (arith, e, l, is))) ∙ s.same i (omega (arith, l));
          }

pub next_small : (b : ℕ) (before jobs old new : List ℕ) (u : ℕ) → IsNextEnds before jobs u old new → length old ≡ length jobs → All (λ e. e < b) old → u < b → All (λ e. e < b) new
next_small b before jobs old new u e many small less k d l =
    subst (λ v. v < b) (sym (get_or_default new k d 0 l ∙ e.each k (omega (arith, l, e.many, many))))
    (cond_both (eqb (at jobs k) (at before k)) (at old k) u (λ v. v < b) (λ _. small k 0 (omega (arith, l, e.many))) (λ _. less))

pub length_jobs_before : (m : ℕ) (idle : List ℕ) (xs : List Segment) (k : ℕ) → length idle ≡ m → All (λ x. length (jobs_of x) ≡ m) xs → length (jobs_before idle xs k) ≡ m
length_jobs_before m idle xs zero e h = e
length_jobs_before m idle [] (suc k) e h = e
length_jobs_before m idle (x ∷ xs) (suc k) e h = length_jobs_before m (jobs_of x) xs k (All-head (λ x. length (jobs_of x) ≡ m) x xs h) (All-tail (λ x. length (jobs_of x) ≡ m) x xs h)

module _ (n m : ℕ) (xs : List Segment) where
  pub walked_on : (idle : List ℕ) (p b : ℕ) (d : Segment) → p + (b + 1) ≡ length xs
      → (t : ℕ) (ends : List ℕ) (pieces : List Piece) → IsWalked n m idle xs (length xs - b) t ends pieces
      → (before jobs : List ℕ) (u : ℕ) (new : List ℕ) (more : List Piece) → before ≡ jobs_before idle xs p → jobs ≡ jobs_of (get_or xs p d) → length jobs ≡ m → u ≡ t - long (get_or xs p d)
      → IsNextEnds before jobs u ends new → more ≡ pieces ++ begun n before jobs u (at ends) (length jobs)
      → IsWalked n m idle xs (length xs - (b + 1)) u new more
  walked_on idle p b d place t ends pieces w before jobs u new more before_is jobs_are all u_is next is =
      let below : p < length xs = omega (arith, place) in
      let now : length xs - b ≡ p + 1 = omega (arith, place) in
      let then : p ≡ length xs - (b + 1) = omega (arith, place) in
      let W : ℕ → Type 0 = λ k. IsWalked n m idle xs k t ends pieces in
      let here : IsWalked n m idle xs (p + 1) t ends pieces = subst W now w in
      let u_begins : u ≡ sum_by long (take p xs) = u_is ∙ omega (arith, moment_is n m idle xs p d below t ends pieces here) in
      let S : List ℕ → List ℕ → ℕ → Type 0 = λ b j v. IsNextEnds b j v ends new × (length j ≡ m) × (more ≡ pieces ++ begun n b j v (at ends) m) in
      let s : S before jobs u = (next, all, is ∙ ap (λ k. pieces ++ begun n before jobs u (at ends) k) all) in
      let r : S (jobs_before idle xs p) (jobs_of (get_or xs p d)) (sum_by long (take p xs)) =
      subst (λ v. S (jobs_before idle xs p) (jobs_of (get_or xs p d)) v) u_begins (subst₂ (λ b j. S b j u) before_is jobs_are s) in
      subst₂ (λ k v. IsWalked n m idle xs k v new more) then (sym u_begins) (IsWalked-next n m idle xs p d below t ends pieces here new more r.0 r.1 r.2)

  pub walked_all : (b t : ℕ) (ends : List ℕ) (pieces : List Piece) → length xs ≤ b → IsWalked n m (replicate m n) xs (length xs - b) t ends pieces → IsPermutation (runs n xs m) pieces
  walked_all b t ends pieces l w =
      let over : length xs - b ≡ 0 = omega (arith, l) in
      let W : ℕ → Type 0 = λ k. IsWalked n m (replicate m n) xs k t ends pieces in
      let all : IsWalked n m (replicate m n) xs 0 t ends pieces = subst W over w in
      subst (IsPermutation (runs n xs m)) (sym (all.laid ∙ ap (λ u. latest_first n m (replicate m n) u xs) all.moment)) (runs_latest_first n m xs)
