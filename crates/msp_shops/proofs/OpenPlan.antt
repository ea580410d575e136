-- The pieces of an open shop as the rule lays them: they are a plan, and end by the greatest of the loads and lengths.
use Rattle.std.proofs.Common.{◌≡◌, ◌≢◌, ℕ, zero, suc, ◌+◌, ◌<◌, ◌≤◌, ◌⊎◌, inl, inr, max, List, [], ◌∷◌, ◌++◌, length, get_or, map, All, AllPairs, Contains, sum_by, refl, sym, ap, pos_of_ne-zero}
use Rattle.std.proofs.Common.{ap₂, subst, ◌∙◌, arith, length-append}
use Rattle.std.specs.Prelude.{IsPermutation}
use Rattle.std.proofs.lemmas.List.{length-map, get_or-map}
use Rattle.std.proofs.lemmas.List.Elements.{All-append, All-contains, All-map, All-head, All-tail, Contains-append_left, Contains-append_right}
use Rattle.std.proofs.lemmas.List.Sums.{sum_by-cons}
use Rattle.std.proofs.lemmas.List.Sorted.{IsPermutation-map, All-permutation, Contains-permutation, sum_by-IsPermutation}
use Rattle.msp_class.specs.declared.sizes.TheConstants.{MOST_JOBS, GREATEST}
use Rattle.msp_class.specs.Sums.{total_below}
use Rattle.msp_class.proofs.Sums.{total_below-range, sum_by-map, OnceBelow, OnceBelow-range, OnceBelow-permutation, OnceBelow-distinct, OnceBelow-contains, length-OnceBelow}
use Rattle.msp_class.proofs.Sums.{AllPairs-tail, AllPairs-head}
use Rattle.msp_class.proofs.IntegerRing.{pos-le}
use Rattle.msp_instance.specs.declared.Instance.{Instance}
use Rattle.msp_instance.specs.Instance.{need_at}
use Rattle.msp_pieces.specs.declared.Piece.{Piece}
use Rattle.msp_pieces.specs.Intervals.{IsApartOn}
use Rattle.msp_pieces.specs.Piece.{start, finish, IsTimed}
use Rattle.msp_pieces.proofs.feasible.Series.{AllPairs-append}
use Rattle.msp_pieces.proofs.changes.Moves.{Contains-map}
use Rattle.msp_shops.specs.declared.pass.JobTimes.{JobTimes}
use Rattle.msp_shops.specs.declared.pass.Moments.{Moments}
use Rattle.msp_shops.specs.declared.pass.Stage.{Stage}
use Rattle.msp_shops.specs.Pass.{whole_piece, part, machine_of, IsOperation, IsOf, HasPiece, IsPass}
use Rattle.msp_shops.specs.Open.{IsOpenEnd}
use Rattle.msp_shops.specs.Times.{times_at}
use Rattle.msp_shops.specs.OpenOrder.{all_times, IsSpecial, AreGrouped}
use Rattle.msp_shops.proofs.Parts.{All-part, Contains-part, AllPairs-part, length-part}
use Rattle.msp_shops.proofs.Shops.{IsTimely, IsShopPlan, IsBestPlan, IsBestPlan-from_plan, over_one}
use Rattle.msp_shops.proofs.OpenFacts.{IsOpenInstance, job_numbers, one_or_other, load_is, end_short, least_end, critical_end, length_of_two, greatest_line}
use Rattle.msp_shops.proofs.InLine.{job_of}

-- ---- all jobs, the special one before the others
pub record AreStages (first second : Stage) : Type 0 where
  pub one : first.machine ≡ first.op
  pub two : second.machine ≡ second.op
  pub one_small : first.op < 2
  pub two_small : second.op < 2
  pub other : first.op ≢ second.op

jobs_of : (i : Instance) (a b : ℕ) (xs : List ℕ) → map (λ t. t.job) (map (times_at i a b) xs) ≡ xs
jobs_of i a b [] = refl
jobs_of i a b (x ∷ xs) = ap (λ l. x ∷ l) (jobs_of i a b xs)

distinct_from_map : {X : Type 0} (f : X → ℕ) (xs : List X) → AllPairs (λ a b. a ≢ b) (map f xs) → AllPairs (λ a b. f a ≢ f b) xs
distinct_from_map f xs h a b d l m e =
    let inside : b < length (map f xs) = omega (arith, length-map xs f, m) in
    h a b (f d) l inside (get_or-map f xs a d (f d) (omega (arith, l, m)) ∙ e ∙ sym (get_or-map f xs b d (f d) m))

in_front : {X : Type 0} (x : X) (xs : List X) (y : X) → Contains (x ∷ xs) y → (x ≡ y) ⊎ Contains xs y
in_front x xs y (zero, l, e) = inl e
in_front x xs y (suc k, l, e) = inr (k, omega arith, e)

either_of : (o a b : ℕ) → o < 2 → a < 2 → b < 2 → a ≢ b → (o ≡ a) ⊎ (o ≡ b)
either_of o a b k l m n = grind arith

both_operations : (f : ℕ → ℕ) (a b : ℕ) → a < 2 → b < 2 → a ≢ b → f a + f b ≡ f 0 + f 1
both_operations f a b l m n = by (one_or_other a l) (one_or_other b m)
  where
    by : (a ≡ 0) ⊎ (a ≡ 1) → (b ≡ 0) ⊎ (b ≡ 1) → f a + f b ≡ f 0 + f 1
    by (inl e) (inl g) = absurd (n (e ∙ sym g))
    by (inl e) (inr g) = omega (arith, ap f e, ap f g)
    by (inr e) (inl g) = omega (arith, ap f e, ap f g)
    by (inr e) (inr g) = absurd (n (e ∙ sym g))

-- the job's number is one of the instance, and its times are those of the operations
pub record IsRead (i : Instance) (first second : Stage) (t : JobTimes) : Type 0 where
  pub inside : t.job < length i.jobs
  pub first_time : t.first ≡ (need_at i t.job first.op).time
  pub second_time : t.second ≡ (need_at i t.job second.op).time

-- what is asked of the jobs before they are laid
pub record IsReady (i : Instance) (first second : Stage) (special : JobTimes) (others : List JobTimes) : Type 0 where
  pub all : IsPermutation (all_times i first.op second.op) (special ∷ others)
  pub few : length others ≤ MOST_JOBS
  pub once : AllPairs (λ a b. a.job ≢ b.job) others
  pub short : All (λ t. (t.first ≤ GREATEST) × (t.second ≤ GREATEST)) others
  pub short_special : (special.first ≤ GREATEST) × (special.second ≤ GREATEST)

module _ (i : Instance) (h : IsOpenInstance i) (first second : Stage)
    (g : AreStages first second) (special : JobTimes) (others : List JobTimes) (all : IsPermutation (all_times i first.op second.op) (special ∷ others)) where
  abbrev jobs : List JobTimes
  jobs = special ∷ others

  abbrev times : List JobTimes
  times = all_times i first.op second.op

  read : All (IsRead i first second) jobs
  read = All-permutation (IsRead i first second) times jobs all (All-map (IsRead i first second) (times_at i first.op second.op)
      (job_numbers i) (λ k d l. record { inside = (OnceBelow-range (length i.jobs)).within k d l; first_time = refl; second_time = refl }))

  once : OnceBelow (length i.jobs) (map (λ t. t.job) jobs)
  once = OnceBelow-permutation (subst (OnceBelow (length i.jobs)) (sym (jobs_of i first.op second.op (job_numbers i))) (OnceBelow-range (length i.jobs)))
      (IsPermutation-map (λ t. t.job) times jobs all)

  distinct : AllPairs (λ a b. a.job ≢ b.job) jobs
  distinct = distinct_from_map (λ t. t.job) jobs (OnceBelow-distinct once)

  not_special : All (λ t. special.job ≢ t.job) others
  not_special = AllPairs-head (λ a b. a.job ≢ b.job) special others distinct

  few_others : length others ≤ MOST_JOBS
  few_others = omega (arith, length-OnceBelow once, length-map jobs (λ t. t.job), h.is.few)

  short : All (λ t. (t.first ≤ GREATEST) × (t.second ≤ GREATEST)) jobs
  short k d l = let r = read k d l in (
    omega (arith, r.first_time, h.is.times _ first.op r.inside (omega (arith, g.one_small, h.two))),
    omega (arith, r.second_time, h.is.times _ second.op r.inside (omega (arith, g.two_small, h.two))),
  )

  pub is_ready : IsReady i first second special others
  is_ready = record {
    all = all;
    few = few_others;
    once = AllPairs-tail (λ a b. a.job ≢ b.job) special others distinct;
    short = All-tail (λ t. (t.first ≤ GREATEST) × (t.second ≤ GREATEST)) special others short;
    short_special = All-head (λ t. (t.first ≤ GREATEST) × (t.second ≤ GREATEST)) special others short;
  }

  has_job : (j : ℕ) → j < length i.jobs → (special ≡ times_at i first.op second.op j) ⊎ Contains others (times_at i first.op second.op j)
  has_job j l = in_front special others (times_at i first.op second.op j) (Contains-permutation times jobs (times_at i first.op second.op j)
      all (Contains-map (times_at i first.op second.op) (job_numbers i) j (OnceBelow-contains (OnceBelow-range (length i.jobs)) j l)))

  module _ (end : ℕ) (e : IsOpenEnd i end) where
    load_ends : (o : ℕ) → o < 2 → total_below (length i.jobs) (λ j. (need_at i j o).time) ≤ end
    load_ends o l = let m : o < i.machines = omega (arith, l, h.two) in omega (arith, load_is i h.is o m, (greatest_line i h end e).loads o m)

    sum_of : (f : JobTimes → ℕ) → f special + sum_by f others ≡ total_below (length i.jobs) (λ j. f (times_at i first.op second.op j))
    sum_of f = sym (sum_by-cons f special others) ∙ sum_by-IsPermutation f times jobs all
        ∙ sum_by-map f (times_at i first.op second.op) (job_numbers i) ∙ total_below-range (length i.jobs) (λ j. f (times_at i first.op second.op j))

    first_sum : special.first + sum_by (λ t. t.first) others ≤ end
    first_sum = omega (arith, sum_of (λ t. t.first), load_ends first.op g.one_small)

    second_sum : special.second + sum_by (λ t. t.second) others ≤ end
    second_sum = omega (arith, sum_of (λ t. t.second), load_ends second.op g.two_small)

    line : special.first + special.second ≤ end
    line =
        let r : IsRead i first second special = All-head (IsRead i first second) special others read in
        omega (
          arith,
          r.first_time,
          r.second_time,
          both_operations (λ o. (need_at i special.job o).time)
              first.op second.op g.one_small g.two_small g.other,
          length_of_two i h special.job r.inside,
          e.lengths special.job r.inside,
        )

    -- ---- the pieces
    module _ (s : IsSpecial special others) (grouped : AreGrouped others)
        (to : Moments) (laid : List Piece) (p : IsPass first second others (record { first = 0; second = special.second }) to laid) where
      abbrev from : Moments
      from = record { first = 0; second = special.second }

      abbrev last : ℕ
      last = max to.first special.second

      abbrev two : Piece
      two = whole_piece special.job second 0 special.second

      abbrev one : Piece
      one = whole_piece special.job first last special.first

      abbrev before : List Piece
      before = part special.job second 0 special.second

      abbrev after : List Piece
      after = part special.job first last special.first

      abbrev pieces : List Piece
      pieces = (before ++ laid) ++ after

      first_ends : to.first + special.first ≤ end
      first_ends = omega (arith, p.first_end, first_sum)

      second_ends : to.second ≤ end
      second_ends = critical_end others special.first special.second end to.second s.lesser_first s.greatest grouped first_sum second_sum p.second_end

      each : (P : Piece → Type 0) → (0 < special.second → P two) → All P laid → (0 < special.first → P one) → All P pieces
      each P a b c = All-append P (before ++ laid) after
          (All-append P before laid (All-part P special.job second 0 special.second a) b) (All-part P special.job first last special.first c)

      pairs : (R : Piece → Piece → Type 0) → All (R two) laid → AllPairs R laid → All (λ q. R q one) laid → R two one → AllPairs R pieces
      pairs R a b c d =
          AllPairs-append R (before ++ laid) after
          (AllPairs-append R before laid (AllPairs-part R special.job second 0 special.second) b (All-part (λ q. All (R q) laid) special.job second 0 special.second (λ _. a)))
          (AllPairs-part R special.job first last special.first)
          (All-append (λ q. All (R q) after) before laid
          (All-part (λ q. All (R q) after) special.job second 0 special.second (λ _. All-part (R two) special.job first last special.first (λ _. d)))
          (λ k x l. All-part (R (get_or laid k x)) special.job first last special.first (λ _. c k x l)))

      -- each is an operation of a job, and ends by the end
      abbrev Known : Piece → Type 0
      Known q = (q.job < length i.jobs) × (q.op < 2) × (q.machine ≡ q.op) × (finish q ≡ start q + (need_at i q.job q.op).time) × (finish q ≤ end)

      known_by : (stage : Stage) (number time earliest latest : ℕ) (q : Piece) → IsOperation stage number time earliest latest q
          → number < length i.jobs → time ≡ (need_at i number stage.op).time → stage.machine ≡ stage.op → stage.op < 2 → latest ≤ end → Known q
      known_by stage number time earliest latest q o inside is same small early = (
        omega (arith, o.job, inside),
        omega (arith, o.op, small),
        o.machine ∙ same ∙ sym o.op,
        o.whole ∙ ap (λ n. start q + n) (is ∙ ap₂ (λ j n. (need_at i j n).time) (sym o.job) (sym o.op)),
        omega (arith, o.to, early),
      )

      known_of : (q : Piece) (t : JobTimes) → IsRead i first second t → IsOf first second from to q t → Known q
      known_of q t r (inl o) = known_by first t.job t.first 0 to.first q o r.inside r.first_time g.one g.one_small (omega (arith, first_ends))
      known_of q t r (inr o) = known_by second t.job t.second special.second to.second q o r.inside r.second_time g.two g.two_small second_ends

      known : All Known pieces
      known =
          let r : IsRead i first second special = All-head (IsRead i first second) special others read in
          let rest : All (IsRead i first second) others = All-tail (IsRead i first second) special others read in
          each Known
          (λ _. known_by second special.job special.second 0 special.second two
          (record { job = refl; op = refl; machine = refl; whole = refl; from = omega arith; to = omega arith }) r.inside r.second_time g.two g.two_small (omega (arith, line)))
          (λ k d l. let (t, c, o) = p.tidy.known k d l in known_of (get_or laid k d) t (All-contains (IsRead i first second) others t rest c) o)
          (λ _. known_by first _ special.first 0 end one (record { job = refl; op = refl; machine = refl; whole = refl; from = omega arith; to = omega (arith, first_ends, line) })
          r.inside r.first_time g.one g.one_small (omega arith))

      different : first.machine ≢ second.machine
      different z = g.other (sym g.one ∙ z ∙ g.two)

      not_of_special : All (λ q. special.job ≢ q.job) laid
      not_of_special k d l z = let (t, c, o) = p.tidy.known k d l in All-contains (λ t. special.job ≢ t.job) others t not_special c (z ∙ job_of first second from to _ t o)

      abbrev InOrder : Piece → Piece → Type 0
      InOrder q r = q.job ≡ r.job → (q.op ≢ r.op) × (finish q ≤ start r)

      in_order : AllPairs InOrder pieces
      in_order = pairs InOrder
          (λ k d l z. absurd (not_of_special k d l z))
          (λ a b d l m z. let (x, y, f) = p.tidy.in_order a b d l m z in ((λ w. g.other (sym x ∙ w ∙ y)), f))
          (λ k d l z. absurd (not_of_special k d l (sym z)))
          (λ z. ((λ w. g.other (sym w)), omega arith))

      apart : AllPairs (IsApartOn machine_of start finish) pieces
      apart = pairs (IsApartOn machine_of start finish)
          (λ k d l z. elim (p.tidy.known k d l).2 [ inl x ↦ absurd (different (sym x.machine ∙ sym z)) | inr x ↦ inl (omega (arith, x.from)) ])
          p.tidy.apart
          (λ k d l z. elim (p.tidy.known k d l).2 [ inl x ↦ inl (omega (arith, x.to)) | inr x ↦ absurd (different (sym z ∙ x.machine)) ])
          (λ z. absurd (different (sym z)))

      in_laid : (stage : Stage) (j : ℕ) → HasPiece laid stage j → HasPiece pieces stage j
      in_laid stage j (q, c, x, y) = (q, Contains-append_left (before ++ laid) after q (Contains-append_right before laid q c), x, y)

      has_first : (j : ℕ) → (special ≡ times_at i first.op second.op j) ⊎ Contains others (times_at i first.op second.op j) → 0 < (need_at i j first.op).time → HasPiece pieces first j
      has_first j (inl z) n =
          (one, Contains-append_right (before ++ laid) after one (Contains-part special.job first last special.first (omega (arith, ap (λ t. t.first) z, n))), ap (λ t. t.job) z, refl)
      has_first j (inr c) n = in_laid first j (All-contains (λ t. 0 < t.first → HasPiece laid first t.job) others (times_at i first.op second.op j) p.tidy.has_first c n)

      has_second : (j : ℕ) → (special ≡ times_at i first.op second.op j) ⊎ Contains others (times_at i first.op second.op j) → 0 < (need_at i j second.op).time → HasPiece pieces second j
      has_second j (inl z) n = (
        two,
        Contains-append_left (before ++ laid) after two
            (Contains-append_left before laid two (Contains-part special.job second 0 special.second (omega (arith, ap (λ t. t.second) z, n)))),
        ap (λ t. t.job) z,
        refl,
      )
      has_second j (inr c) n = in_laid second j (All-contains (λ t. 0 < t.second → HasPiece laid second t.job) others (times_at i first.op second.op j) p.tidy.has_second c n)

      has_all : (j o : ℕ) → j < length i.jobs → IsTimely i j o → (q : Piece) × Contains pieces q × (q.job ≡ j) × (q.op ≡ o)
      has_all j o l (m, n) = elim (either_of o first.op second.op (omega (arith, m, h.is.needs j l, h.two)) g.one_small g.two_small g.other) [
        | inl z ↦ let (q, c, x, y) = has_first j (has_job j l) (subst (λ k. 0 < (need_at i j k).time) z (pos_of_ne-zero n)) in (q, c, x, y ∙ sym z)
        | inr z ↦ let (q, c, x, y) = has_second j (has_job j l) (subst (λ k. 0 < (need_at i j k).time) z (pos_of_ne-zero n)) in (q, c, x, y ∙ sym z)
      ]

      timed : All IsTimed pieces
      timed = each IsTimed (λ b. record { from = refl; to = refl; lasts = omega (arith, b) }) p.tidy.timed
          (λ b. record { from = refl; to = refl; lasts = omega (arith, b) })

      plan : IsShopPlan i pieces
      plan = record {
        timed = timed;
        job = λ k d l. (known k d l).0;
        operation = λ k d l. omega (arith, (known k d l).1, h.is.needs (get_or pieces k d).job (known k d l).0, h.two);
        machine = λ k d l. let n = known k d l in n.2 ∙ sym (h.is.machines _ (get_or pieces k d).op n.0 (omega (arith, n.1, h.two)));
        whole = λ k d l. (known k d l).3;
        apart = apart;
        in_order = in_order;
        route = inl h.is.kind;
        each = has_all;
      }

      pub IsBestPlan-from_laid : IsBestPlan i end (over_one pieces)
      IsBestPlan-from_laid = IsBestPlan-from_plan i h.is.shop end (least_end i h.is end (greatest_line i h end e)) pieces plan
          (omega (
            arith,
            length-append (before ++ laid)
                after,
            length-append before laid,
            length-part special.job second 0 special.second,
            length-part special.job first last special.first,
            p.few,
            few_others,
          ))
          (λ k d l. (known k d l).4)
          (pos-le (omega (arith, end_short i h.is end (greatest_line i h end e))))
