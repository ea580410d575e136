-- One job more on the stairs: its pieces, on the machines and by jobs.
use Rattle.std.proofs.Common.{◌≡◌, ◌≢◌, ℕ, ◌+◌, ◌-◌, ◌<◌, ◌≤◌, inl, inr, cond, eqb, ltb, List, [], ◌∷◌, ◌++◌, length, get_or, map, All, AllPairs, sum_by, below_more}
use Rattle.std.proofs.Common.{refl, sym, ap, subst, subst₂, ◌∙◌, arith, append-nil, append_assoc, length-append}
use Rattle.std.specs.Prelude.{◌==◌}
use Rattle.std.specs.List.{filter, count_by}
use Rattle.std.proofs.lemmas.Bool.{eq-eqb, ne_eqb, ltb-true, ltb-false, cond_both}
use Rattle.std.proofs.lemmas.List.{length-map, get_or-map, map-append}
use Rattle.std.proofs.lemmas.List.Elements.{All-nil, All-cons, All-head, All-tail, All-append, All-push, filter-append}
use Rattle.std.proofs.lemmas.List.Sorted.{IsPermutation-middle}
use Rattle.std.proofs.lemmas.List.Sums.{sum_by-append, sum_by-cons, count_by-le-length}
use Rattle.msp_class.proofs.Sums.{OnceBelow, OnceBelow-distinct, OnceBelow-permutation, AllPairs-head, sum_by-none, cond-no}
use Rattle.msp_instance.specs.declared.Instance.{Instance}
use Rattle.msp_instance.proofs.ArcLemmas.{filter_none, filter_all}
use Rattle.msp_pieces.specs.declared.Piece.{Piece}
use Rattle.msp_pieces.specs.Intervals.{IsApartOn, size_of, work_of}
use Rattle.msp_pieces.specs.Piece.{job_of, start, finish, IsTimed}
use Rattle.msp_pieces.proofs.feasible.Series.{AllPairs-append}
use Rattle.msp_pieces.proofs.lists.Parts.{All-front, All-back, AllPairs-front, AllPairs-back, AllPairs-last}
use Rattle.msp_stairs.specs.declared.climb.Limits.{Limits}
use Rattle.msp_stairs.specs.declared.climb.Stair.{Stair}
use Rattle.msp_stairs.specs.Bounds.{at, work_at, deadline}
use Rattle.msp_stairs.specs.Steps.{part, parts, machine_of, Holds, AreOnStairs, HaveWork}
use Rattle.std.proofs.lemmas.List.Quantifiers.{all_pairs_push}

-- ---- lists
AllPairs-from_map : {X : Type 0} (f : X → ℕ) (R : ℕ → ℕ → Type 0) (xs : List X) → AllPairs R (map f xs) → AllPairs (λ x y. R (f x) (f y)) xs
AllPairs-from_map f R xs h a b d l k = subst₂ R (get_or-map f xs a d (f d) (omega (arith, l, k))) (get_or-map f xs b d (f d) k) (h a b (f d) l (omega (arith, k, length-map xs f)))

-- ---- on the machines
Holds-push : (ps : List Piece) (p : Piece) (s : Stair) → (p.machine ≡ s.machine → finish p ≤ s.end) → Holds ps s → Holds (ps ++ p ∷ []) s
Holds-push ps p s h k = All-push (λ q. q.machine ≡ s.machine → finish q ≤ s.end) ps p k h

module _ (m : ℕ) (xs : List Stair) (a : Stair) (zs : List Stair) (ps : List Piece) (o : AreOnStairs m (xs ++ a ∷ zs) ps) where
  abbrev number : Stair → ℕ
  number s = s.machine

  abbrev busy : ℕ → Stair
  busy e = record { machine = a.machine; end = e }

  abbrev Other : Stair → Stair → Type 0
  Other s t = s.machine ≢ t.machine

  different : AllPairs Other (xs ++ a ∷ zs)
  different = AllPairs-from_map number (λ x y. x ≢ y) (xs ++ a ∷ zs) (OnceBelow-distinct o.machines)

  ahead : All (λ s. Other s a) xs
  ahead = AllPairs-last Other xs a (AllPairs-front Other (xs ++ a ∷ []) zs (subst (AllPairs Other) (sym (append_assoc xs (a ∷ []) zs)) different))

  behind : All (λ s. Other s a) zs
  behind k d l e = AllPairs-head Other a zs (AllPairs-back Other xs (a ∷ zs) different) k d l (sym e)

  inside : a.machine < m
  inside = All-head (λ x. x < m) a.machine (map number zs) (All-back (λ x. x < m) (map number xs) (map number (a ∷ zs)) (subst (All (λ x. x < m)) (map-append number xs (a ∷ zs)) o.machines.within))

  held : Holds ps a
  held = All-head (Holds ps) a zs (All-back (Holds ps) xs (a ∷ zs) o.hold)

  ran : (j e : ℕ) → a.end < e → AreOnStairs m (xs ++ busy e ∷ zs) (ps ++ part j a.machine a.end e ∷ [])
  ran j e lasts = record {
    machines = subst (OnceBelow m) (map-append number xs (a ∷ zs) ∙ sym (map-append number xs (busy e ∷ zs))) o.machines;
    hold = All-append (Holds new) xs (busy e ∷ zs) (still xs ahead (All-front (Holds ps) xs (a ∷ zs) o.hold))
        (All-cons (Holds new) (busy e) zs here (still zs behind (All-tail (Holds ps) a zs (All-back (Holds ps) xs (a ∷ zs) o.hold))));
    timed = All-push IsTimed ps p o.timed (record { from = refl; to = refl; lasts = lasts });
    place = All-push (λ q. (q.op ≡ 0) × (q.machine < m)) ps p o.place (refl, inside);
    apart = all_pairs_push (IsApartOn machine_of start finish) ps p o.apart (λ k d l e. inl (held k d l e));
  }
    where
      p : Piece
      p = part j a.machine a.end e

      new : List Piece
      new = ps ++ p ∷ []

      here : Holds new (busy e)
      here = Holds-push ps p (busy e) (λ _. omega arith) (λ k d l same. omega (arith, held k d l same, lasts))

      still : (ss : List Stair) → All (λ s. Other s a) ss → All (Holds ps) ss → All (Holds new) ss
      still ss differ h k d l = Holds-push ps p (get_or ss k d) (λ same. absurd (differ k d l (sym same))) (h k d l)

  pub ran_to : (j e : ℕ) → a.end ≤ e → AreOnStairs m (xs ++ busy e ∷ zs) (ps ++ parts j a.machine a.end e)
  ran_to j e l = cond_both (ltb a.end e) (part j a.machine a.end e ∷ []) [] (λ qs. AreOnStairs m (xs ++ busy e ∷ zs) (ps ++ qs))
      (λ f. ran j e (ltb-true a.end e f)) (λ f.
      let same : a.end ≡ e = omega (arith, l, ltb-false a.end e f) in
      subst₂ (λ x qs. AreOnStairs m (xs ++ busy x ∷ zs) qs) same (sym (append-nil ps)) o)

  pub in_front : AreOnStairs m (a ∷ (xs ++ zs)) ps
  in_front = record {
    machines = subst (OnceBelow m) (ap (λ ms. a.machine ∷ ms) (sym (map-append number xs zs)))
        (OnceBelow-permutation (subst (OnceBelow m) (map-append number xs (a ∷ zs)) o.machines) (IsPermutation-middle (map number xs) a.machine (map number zs)));
    hold = All-cons (Holds ps) a (xs ++ zs) held (All-append (Holds ps) xs zs (All-front (Holds ps) xs (a ∷ zs) o.hold) (All-tail (Holds ps) a zs (All-back (Holds ps) xs (a ∷ zs) o.hold)));
    timed = o.timed;
    place = o.place;
    apart = o.apart;
  }

-- ---- the parts of a job
-- none or one, from a to b
pub record AreParts (job a b : ℕ) (ps : List Piece) : Type 0 where
  pub each : All (λ p. (p.job ≡ job) × (start p ≡ a) × (finish p ≡ b)) ps
  pub few : length ps ≤ 1
  pub size : sum_by (size_of start finish) ps ≡ b - a

pub AreParts-parts : (job machine a b : ℕ) → AreParts job a b (parts job machine a b)
AreParts-parts job machine a b = cond_both (ltb a b) (part job machine a b ∷ []) [] (AreParts job a b)
    (λ _. record {
      each = All-cons (λ p. (p.job ≡ job) × (start p ≡ a) × (finish p ≡ b)) (part job machine a b) [] (refl, refl, refl) (All-nil (λ p. (p.job ≡ job) × (start p ≡ a) × (finish p ≡ b)));
      few = omega arith;
      size = omega (arith, sum_by-cons (size_of start finish) (part job machine a b) []);
    })
    (λ e. record { each = All-nil (λ p. (p.job ≡ job) × (start p ≡ a) × (finish p ≡ b)); few = omega arith; size = omega (arith, ltb-false a b e) })

-- all pieces of one job: they are apart, and last as long as it takes
pub record AreOfJob (job work due : ℕ) (ps : List Piece) : Type 0 where
  pub jobs : All (λ p. p.job ≡ job) ps
  pub apart : AllPairs (IsApartOn job_of start finish) ps
  pub size : sum_by (size_of start finish) ps ≡ work
  pub ends : All (λ p. finish p ≤ due) ps
  pub few : length ps ≤ 2

single : (ps : List Piece) → length ps ≤ 1 → AllPairs (IsApartOn job_of start finish) ps
single ps h a b d l k = absurd (omega (arith, h, l, k))

pub AreOfJob-two : (job work due a b c e : ℕ) (ps qs : List Piece)
    → a ≤ b → c ≤ e → e ≤ a → (b - a) + (e - c) ≡ work → b ≤ due → AreParts job a b ps → AreParts job c e qs → AreOfJob job work due (ps ++ qs)
AreOfJob-two job work due a b c e ps qs l k before is in_time h g = record {
  jobs = All-append (λ p. p.job ≡ job) ps qs (λ n d m. (h.each n d m).0) (λ n d m. (g.each n d m).0);
  apart = AllPairs-append (IsApartOn job_of start finish) ps qs (single ps h.few) (single qs g.few) (λ n d m x f y same. inr (omega (arith, (h.each n d m).1, (g.each x f y).2, before)));
  size = omega (arith, sum_by-append (size_of start finish) ps qs, h.size, g.size, is);
  ends = All-append (λ p. finish p ≤ due) ps qs (λ n d m. omega (arith, (h.each n d m).2, in_time)) (λ n d m. omega (arith, (g.each n d m).2, before, l, in_time));
  few = omega (arith, length-append ps qs, h.few, g.few);
}

pub AreOfJob-one : (job work due a b : ℕ) (ps : List Piece) → b ≡ a + work → b ≤ due → AreParts job a b ps → AreOfJob job work due ps
AreOfJob-one job work due a b ps e l h =
    let none = All-nil (λ (p : Piece). (p.job ≡ job) × (start p ≡ a) × (finish p ≡ a)) in
    subst (AreOfJob job work due) (append-nil ps) (AreOfJob-two job work due a b a a ps [] (omega (arith, e)) (omega arith) (omega arith)
    (omega (arith, e)) l h (record { each = none; few = omega arith; size = omega arith }))

-- ---- the work of each job
work_of-append : (ps qs : List Piece) (j : ℕ) → work_of job_of start finish (ps ++ qs) j ≡ work_of job_of start finish ps j + work_of job_of start finish qs j
work_of-append ps qs j = ap (sum_by (size_of start finish)) (filter-append (λ q. eqb (job_of q) j) ps qs)
    ∙ sum_by-append (size_of start finish) (filter (λ q. eqb (job_of q) j) ps) (filter (λ q. eqb (job_of q) j) qs)

work_of-none : (ps : List Piece) (j : ℕ) → All (λ p. p.job ≢ j) ps → work_of job_of start finish ps j ≡ 0
work_of-none ps j h = ap (sum_by (size_of start finish)) (filter_none (λ q. eqb (job_of q) j) ps (λ k d l. ne_eqb (job_of (get_or ps k d)) j (h k d l)))

work_of-all : (ps : List Piece) (j : ℕ) → All (λ p. p.job ≡ j) ps → work_of job_of start finish ps j ≡ sum_by (size_of start finish) ps
work_of-all ps j h = ap (sum_by (size_of start finish)) (filter_all (λ q. eqb (job_of q) j) ps (λ k d l. eq-eqb (job_of (get_or ps k d)) j (h k d l)))

-- ---- how many pieces each job has
count-append : (ps qs : List Piece) (j : ℕ) → count_by (λ p. p.job == j) (ps ++ qs) ≡ count_by (λ p. p.job == j) ps + count_by (λ p. p.job == j) qs
count-append ps qs j = sum_by-append (λ p. cond (p.job == j) 1 0) ps qs

pub count-none : (ps : List Piece) (j : ℕ) → All (λ p. p.job ≢ j) ps → count_by (λ p. p.job == j) ps ≡ 0
count-none ps j h = sum_by-none (λ p. cond (p.job == j) 1 0) ps (λ k d l. cond-no 1 (ne_eqb (get_or ps k d).job j (h k d l)))

-- ---- one job more
module _ (i : Instance) (order : List ℕ) (limits : Limits) (k : ℕ) (ps qs : List Piece) (once : OnceBelow (length i.jobs) order) (inside : k < length order)
    (h : HaveWork i order limits k ps) (g : AreOfJob (at order k) (work_at i (at order k)) (deadline i limits (at order k)) qs) where
  apart_places : (x : ℕ) → x < k → at order x ≢ at order k
  apart_places x l = OnceBelow-distinct once x k 0 l inside

  pub HaveWork-more : HaveWork i order limits (k + 1) (ps ++ qs)
  HaveWork-more = record {
    jobs = All-append (λ p. (x : ℕ) × (x < k + 1) × (p.job ≡ at order x)) ps qs (λ n d l. let (x, b, e) = h.jobs n d l in (x, omega (arith, b), e)) (λ n d l. (k, omega arith, g.jobs n d l));
    apart = AllPairs-append (IsApartOn job_of start finish) ps qs h.apart g.apart (λ n d l x f y same. let (z, b, e) = h.jobs n d l in absurd (apart_places z b (sym e ∙ same ∙ g.jobs x f y)));
    work = below_more (λ x. work_of job_of start finish (ps ++ qs) (at order x) ≡ work_at i (at order x)) k
        (λ x l. omega (arith, work_of-append ps qs (at order x), work_of-none qs (at order x) (other x l), h.work x l))
        (omega (arith, work_of-append ps qs (at order k), work_of-none ps (at order k) new, work_of-all qs (at order k) g.jobs, g.size));
    ends = All-append (λ p. finish p ≤ deadline i limits p.job) ps qs h.ends (λ n d l. subst (λ j. finish (get_or qs n d) ≤ deadline i limits j) (sym (g.jobs n d l)) (g.ends n d l));
    few = omega (arith, length-append ps qs, h.few, g.few);
    cuts = below_more (λ x. count_by (λ p. p.job == at order x) (ps ++ qs) ≤ 2) k
        (λ x l. omega (arith, count-append ps qs (at order x), count-none qs (at order x) (other x l), h.cuts x l))
        (let all = count_by-le-length (λ (p : Piece). p.job == at order k) qs in
        omega (arith, count-append ps qs (at order k), count-none ps (at order k) new, all, g.few));
  }
    where
      other : (x : ℕ) → x < k → All (λ p. p.job ≢ at order x) qs
      other x l n d m e = apart_places x l (sym e ∙ g.jobs n d m)

      new : All (λ p. p.job ≢ at order k) ps
      new n d m e = let (z, b, f) = h.jobs n d m in apart_places z b (sym f ∙ e)
