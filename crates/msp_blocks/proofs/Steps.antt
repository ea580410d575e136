-- The steps of the loops, at the numbers as the code passes them.
use Rattle.std.proofs.Common.{◌≡◌, ℕ, ◌+◌, ◌<◌, ◌≤◌, max, List, ◌∷◌, ◌++◌, length, get_or, take, drop, All, AllPairs, sum_by, ℤ, refl, sym, ap, ap₂, subst, subst₂, ◌∙◌, arith}
use Rattle.std.proofs.Common.{add-one, le_trans, append_assoc, OnOk, Ok, Err, Result}
use Rattle.std.specs.List.{remove}
use Rattle.std.proofs.lemmas.List.{take-take, drop_all, length-drop, get_or-drop, drop_more, take-append-drop, length-take, get_or-take, get_or_default}
use Rattle.std.proofs.lemmas.List.Edits.{remove-append_left}
use Rattle.std.proofs.lemmas.List.Elements.{All-take}
use Rattle.std.proofs.lemmas.List.Sums.{sum_by-cons, sum_by-append}
use Rattle.msp_class.specs.declared.sizes.TheConstants.{MOST_JOBS}
use Rattle.msp_instance.specs.declared.Instance.{Instance}
use Rattle.msp_pieces.specs.declared.Piece.{Piece}
use Rattle.msp_pieces.specs.Blocks.{cost_at}
use Rattle.msp_pieces.specs.BackToBack.{time_at}
use Rattle.msp_route.specs.Heads.{AreHeads}
use Rattle.msp_blocks.specs.Filling.{done_by, gap, gaps, Follow, IsFirstBlock, IsFilling, IsBound, CostAtMost, greatest_end}
use Rattle.msp_route.specs.LastJob.{EndsAt}
use Rattle.msp_route.proofs.OneInstances.{IsOneInstance, takes_time}
use Rattle.msp_blocks.proofs.Idle.{done-after, done-mono, done-tight, Follow-append, Follow-from_near}
use Rattle.msp_blocks.proofs.Fill.{IsOneMore, IsOneMore-made}

-- ---- the gaps
-- what is put so far, and what is to be put from the moment on
pub record IsPartly (head time : ℕ → ℕ) (old : List Piece) (job begin end : ℕ) (others : List ℕ) (place moment : ℕ) (pieces : List Piece) : Type 0 where
  pub all : pieces ++ gaps head time job moment (drop place others) end ≡ old ++ gaps head time job begin others end
  pub room : done_by head time moment (drop place others) ≤ end

module _ (head time : ℕ → ℕ) (old : List Piece) (job begin end : ℕ) (others : List ℕ) where
  pub IsPartly-start : done_by head time begin others ≤ end → IsPartly head time old job begin end others 0 begin old
  IsPartly-start room = record { all = refl; room = room }

  module _ (place moment : ℕ) (pieces : List Piece) (h : IsPartly head time old job begin end others place moment pieces) where
    pub partly_next : (x next : ℕ) (new : List Piece) → place < length others → x ≡ get_or others place 0 → new ≡ pieces ++ gap job moment (head x) → next ≡ max moment (head x) + time x
        → IsPartly head time old job begin end others (place + 1) next new
    partly_next x next new inside at put is = record {
      all = ap₂ (λ ps t. ps ++ gaps head time job t (drop (place + 1) others) end) put is
          ∙ append_assoc pieces (gap job moment (head x)) (gaps head time job (max moment (head x) + time x) (drop (place + 1) others) end)
          ∙ ap (λ l. pieces ++ gaps head time job moment l end) (sym split) ∙ h.all;
      room = subst (λ t. done_by head time t (drop (place + 1) others) ≤ end) (sym is) (subst (λ l. done_by head time moment l ≤ end) split h.room);
    }
      where
        split : drop place others ≡ x ∷ drop (place + 1) others
        split = drop_more others place 0 inside ∙ ap (λ y. y ∷ drop (place + 1) others) (sym at)

    pub partly_room : (x : ℕ) → place < length others → x ≡ get_or others place 0 → max moment (head x) + time x ≤ end
    partly_room x inside at =
        let split : drop place others ≡ x ∷ drop (place + 1) others = drop_more others place 0 inside ∙ ap (λ y. y ∷ drop (place + 1) others) (sym at) in
        le_trans (done-after head time (max moment (head x) + time x) (drop (place + 1) others)) (subst (λ l. done_by head time moment l ≤ end) split h.room)

    pub partly_end : (new : List Piece) → length others ≤ place → new ≡ pieces ++ gap job moment end → new ≡ old ++ gaps head time job begin others end
    partly_end new all put = put ∙ ap (λ l. pieces ++ gaps head time job moment l end) (sym (drop_all place others all)) ∙ h.all

pub on_ok_then : {A E : Type 0} {P Q : Type 0} (r : Result A E) → (P → Q) → OnOk r P → OnOk r Q
on_ok_then (Ok a) f h = f h
on_ok_then (Err x) f h = tt

-- ---- what is asked of the jobs that are left, and of the first ones
pub left_few : (i : Instance) (head : ℕ → ℕ) (left slice : List ℕ) (ps : List Piece)
    → IsFilling i head greatest_end left ps → slice ≡ left → length slice ≤ MOST_JOBS
left_few i head left slice ps f is = omega (arith, ap length is, f.few)

pub record AreFirst (i : Instance) (first : List ℕ) : Type 0 where
  pub some : 0 < length first
  pub few : length first ≤ MOST_JOBS
  pub inside : All (λ j. j < length i.jobs) first

pub AreFirst-cut : {i : Instance} {head time : ℕ → ℕ} {left slice again : List ℕ} {count end : ℕ} {ps : List Piece}
    → IsFilling i head greatest_end left ps → IsFirstBlock head time slice count end → slice ≡ left → again ≡ left → AreFirst i (take count again)
AreFirst-cut {i} {head} {left = left} {slice} {again} {count} {ps = ps} f block is is_again = record {
  some = omega (arith, ap length is, ap length is_again, block.within, block.some, length-take count again);
  few = omega (arith, left_few i head left again ps f is_again, length-take count again);
  inside = All-take (λ j. j < length i.jobs) count again (subst (All (λ j. j < length i.jobs)) (sym is_again) f.inside);
}

-- ---- one job more is placed
module _ (i : Instance) (one : IsOneInstance i) (heads : List ℕ) (are : AreHeads i heads) (left : List ℕ) (count end : ℕ) where
  abbrev head : ℕ → ℕ
  head j = get_or heads j 0

  abbrev time : ℕ → ℕ
  time = time_at i

  abbrev first : List ℕ
  first = take count left

  module _ (block : IsFirstBlock head time left count end)
      (later : count < length left → end < head (get_or left count 0)) (small : end ≤ greatest_end) (sorted : AllPairs (λ j k. head j ≤ head k) left) where
    length_first : length first ≡ count
    length_first = omega (arith, length-take count left, block.within)

    first_is : (k : ℕ) → k < count → get_or first k 0 ≡ get_or left k 0
    first_is k l = get_or-take count left k 0 l

    follow : Follow head time (head (get_or first 0 0)) first
    follow = Follow-from_near head time (head (get_or first 0 0)) first near
      where
        near : (k : ℕ) → k < length first → head (get_or first k 0) ≤ head (get_or first 0 0) + sum_by time (take k first)
        near k l =
            let short : k < count = omega (arith, l, length_first) in
            omega (arith, ap head (first_is k short), ap head (first_is 0 block.some), ap (sum_by time) (take-take k count left (omega (arith, short))), block.near k short)

    pub end_is : end ≡ head (get_or first 0 0) + sum_by time first
    end_is = omega (arith, block.end_is, ap head (first_is 0 block.some))

    after : All (λ c. end < head c) (drop count left)
    after k d l =
        let inside : count + k < length left = omega (arith, l, length-drop count left, block.within) in
        let here : get_or (drop count left) k d ≡ get_or left (count + k) 0 = get_or-drop count left k d ∙ get_or_default left (count + k) d 0 inside in
        rw here (grind (arith, later, sorted count (count + k) 0, inside))

    module _ (place : ℕ) (inside : place < length first) where
      abbrev X : List ℕ
      X = take place first

      abbrev job : ℕ
      job = get_or first place 0

      abbrev Y : List ℕ
      Y = drop (place + 1) first

      abbrev C : List ℕ
      C = drop count left

      parts : first ≡ X ++ job ∷ Y
      parts = sym (take-append-drop place first) ∙ ap (λ l. X ++ l) (drop_more first place 0 inside)

      whole : left ≡ (X ++ job ∷ Y) ++ C
      whole = sym (take-append-drop count left) ∙ ap (λ l. l ++ C) parts

      without : remove left place ≡ X ++ Y ++ C
      without = ap (λ l. remove l place) (sym (take-append-drop count left)) ∙ remove-append_left first C place inside
          ∙ ap (λ n. take place first ++ drop n first ++ C) (sym (add-one place))

      tight : Follow head time (head (get_or first 0 0)) (X ++ job ∷ Y)
      tight = subst (Follow head time (head (get_or first 0 0))) parts follow

      -- the others of the block leave time enough
      pub has_room : (moment : ℕ) → moment ≡ head (get_or first 0 0) + sum_by time X → done_by head time moment Y ≤ end
      has_room moment e =
          let m = head (get_or first 0 0) + sum_by time X in
          let done = done-tight head time (m + time job) Y (Follow-append head time (head (get_or first 0 0)) X (job ∷ Y) tight).1.1 in
          let sum = ap (sum_by time) parts ∙ sum_by-append time X (job ∷ Y) in
          rw e (omega (arith, done-mono head time m (m + time job) Y (omega arith), done, end_is, sum, sum_by-cons time job Y))

      pub placed_next : (ps new : List Piece) (left_now : List ℕ) (moment : ℕ) → moment ≡ head (get_or first 0 0) + sum_by time X
          → EndsAt i end first job → left_now ≡ remove left place → new ≡ ps ++ gaps head time job moment Y end
          → IsFilling i head greatest_end left ps → IsOneMore i head greatest_end heads left left_now ps new first (cost_at i job end)
      placed_next ps new left_now moment e last now put f =
          let left_is = now ∙ without in
          let put_is = put ∙ ap (λ t. ps ++ gaps head time job t Y end) e in
          let m = IsOneMore-made i head greatest_end (takes_time i one) are.arcs X job Y C ps (subst (λ l. IsFilling i head greatest_end l ps) whole f)
          (head (get_or first 0 0)) end (ap (λ l. head (get_or l 0 0)) parts) tight (end_is ∙ ap (λ l. head (get_or first 0 0) + sum_by time l) parts) small after
          (subst (λ l. EndsAt i end l job) parts last) one.inner.conditions.ends heads are.each (λ j. refl) are.sound in
          record {
            filling = subst (λ l. IsFilling i head greatest_end l new) (sym left_is) (subst (IsFilling i head greatest_end (X ++ Y ++ C)) (sym put_is) m.filling);
            bound = subst (λ l. IsBound i heads l (cost_at i job end)) (sym parts) m.bound;
            costs = λ most h c. subst (λ l. CostAtMost i most l new)
                (sym left_is) (subst (CostAtMost i most (X ++ Y ++ C)) (sym put_is) (m.costs most h (subst (λ l. CostAtMost i most l ps) whole c)));
          }

-- at the numbers as the code passes them
module _ (i : Instance) (one : IsOneInstance i) (heads : List ℕ) (are : AreHeads i heads) (left slice again : List ℕ) (count end : ℕ) (is : slice ≡ left) (is_again : again ≡ left)
    (block : IsFirstBlock (λ j. get_or heads j 0) (time_at i) slice count end) (later : count < length slice → end < get_or heads (get_or slice count 0) 0) (small : end ≤ greatest_end)
    (ps : List Piece) (f : IsFilling i (λ j. get_or heads j 0) greatest_end left ps)
    (place total : ℕ) (inside : place < length (take count again)) (sum : total ≡ sum_by (time_at i) (take place (take count again)))
    (others : List ℕ) (rest : others ≡ drop (place + 1) (take count again)) where
  abbrev q : ℕ → ℕ
  q j = get_or heads j 0

  abbrev jobs : List ℕ
  jobs = take count left

  same : take count again ≡ jobs
  same = ap (take count) is_again

  block_now : IsFirstBlock q (time_at i) left count end
  block_now = subst (λ l. IsFirstBlock q (time_at i) l count end) is block

  later_now : count < length left → end < q (get_or left count 0)
  later_now = subst (λ l. count < length l → end < q (get_or l count 0)) is later

  inside_now : place < length jobs
  inside_now = subst (λ l. place < length l) same inside

  begin_is : q (get_or (take count again) 0 0) + total ≡ q (get_or jobs 0 0) + sum_by (time_at i) (take place jobs)
  begin_is = ap₂ (λ a b. a + b) (ap (λ l. q (get_or l 0 0)) same) (sum ∙ ap (λ l. sum_by (time_at i) (take place l)) same)

  rest_now : others ≡ drop (place + 1) jobs
  rest_now = rest ∙ ap (drop (place + 1)) same

  pub passed_room : done_by q (time_at i) (q (get_or (take count again) 0 0) + total) others ≤ end
  passed_room = subst (λ l. done_by q (time_at i) (q (get_or (take count again) 0 0) + total) l ≤ end) (sym rest_now)
      (has_room i one heads are left count end block_now later_now small f.sorted place inside_now (q (get_or (take count again) 0 0) + total) begin_is)

  pub passed_next : (job : ℕ) → job ≡ get_or (take count again) place 0 → EndsAt i end (take count again) (get_or (take count again) place 0) → (now : List ℕ)
      → now ≡ remove left place → (new : List Piece) → new ≡ ps ++ gaps q (time_at i) job (q (get_or (take count again) 0 0) + total) others end
      → (bound : List ℕ) → bound ≡ take count again → (cost : ℤ) → cost ≡ cost_at i job end → IsOneMore i q greatest_end heads left now ps new bound cost
  passed_next chosen at last now gone new put bound bound_is cost cost_is =
      let job_is : chosen ≡ get_or jobs place 0 = at ∙ ap (λ l. get_or l place 0) same in
      subst₂ (λ b x. IsOneMore i q greatest_end heads left now ps new b x) (sym (bound_is ∙ same)) (sym (cost_is ∙ ap (λ j. cost_at i j end) job_is))
      (placed_next i one heads are left count end block_now later_now small f.sorted place inside_now ps new now
      (q (get_or (take count again) 0 0) + total) begin_is (subst (λ l. EndsAt i end l (get_or l place 0)) same last) gone
      (put ∙ ap₂ (λ j l. ps ++ gaps q (time_at i) j (q (get_or (take count again) 0 0) + total) l end) job_is rest_now) f)
