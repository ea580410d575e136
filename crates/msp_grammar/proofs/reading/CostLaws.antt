-- The costs of schedules and the bounds of certificates: a cost that is read is the fraction that was written, and what was written is read
-- again.
use Rattle.std.proofs.Common.{◌≡◌, ℕ, suc, ◌<◌, ◌≤◌, ◌^◌, false, ◌==◌, nat_le, List, [], ◌∷◌, ◌++◌, Ok, ℤ, pos, negsuc, unsigned_abs, refl, sym, ap, subst, ◌∙◌, append_assoc, arith, decimal}
use Rattle.std.specs.Int.Signed.{◌≤ℤ◌}
use Rattle.std.specs.Char.{is_ascii_digit}
use Rattle.std.specs.Fmt.{signed_decimal}
use Rattle.std.specs.List.{slice_split, join_with_byte}
use Rattle.std.proofs.lemmas.Bool.{leb-true, le-leb}
use Rattle.std.proofs.lemmas.Int.{ints}
use Rattle.std.proofs.lemmas.List.Folds.{list_any-append}
use Rattle.std.proofs.lemmas.List.Splits.{join_with_byte-slice_split, length-slice_split}
use Rattle.msp_name.proofs.Separators.{Lacks, parts-whole, parts-first}
use Rattle.msp_instance.specs.Conditions.{LiesWithin}
use Rattle.msp_pieces.specs.declared.Frac.{Frac}
use Rattle.msp_text.specs.Numbers.{number_of}
use Rattle.msp_text.proofs.NumberTexts.{number_spells, number_again}
use Rattle.msp_grammar.specs.declared.limits.TheConstants.{GREATEST_COST, GREATEST_DENOMINATOR}
use Rattle.msp_grammar.specs.ScheduleText.{IsFractionText, alone, over}
use Rattle.msp_grammar.specs.InstanceText.{line_text}
use Rattle.msp_grammar.specs.declared.lines.fault.FileFault.TheVariants.{Number, Limit}
use Rattle.msp_grammar.specs.declared.lines.fault.What.TheVariants as what
use Rattle.msp_grammar.specs.lines.Reading.{Place, first_of, others_of, field_line_at, natural_in}
use Rattle.msp_grammar.specs.lines.Costs.{number_at, denominator_at, cost_of, cost_in, cost_line_at}
use Rattle.msp_grammar.specs.lines.Steps.{parts_of}
use Rattle.msp_grammar.proofs.reading.LineLaws.{bind_ok, provided_ok, reads, ok_is, bind_again, provided_again, Takes, Gets, IsField, begun, field_line_takes, field_line_again}
use Rattle.msp_grammar.proofs.reading.FieldLaws.{ok_some, natural_in_takes, digits_lack, within_size, size_within}

abbrev pub slashed : List ℕ → List (List ℕ)
slashed w = slice_split (λ byte. byte == 47) w

pub plain_word : (w : List ℕ) → Lacks 32 w → Lacks 10 w → IsField w
plain_word w a b = record { no_space = a; no_line_feed = b }

-- the size of a number that is not too great
numbered : (at : ℕ) (w : List ℕ) (x : ℤ) → unsigned_abs x < 10 ^ 64 → number_at at w ≡ Ok x → w ≡ signed_decimal x
numbered at w x small e = number_spells w x (ok_some (number_of w) (Number at) x e) small

numbered_again : (at : ℕ) (x : ℤ) → unsigned_abs x < 10 ^ 64 → number_at at (signed_decimal x) ≡ Ok x
numbered_again at x small = rw (number_again x small) refl

fraction_taken : (x : Frac) (w first : List ℕ) (others : List (List ℕ)) (at : ℕ)
    → slashed w ≡ first ∷ others → first ≡ signed_decimal x.num → denominator_at at others ≡ Ok x.den → unsigned_abs x.den < 10 ^ 64 → IsFractionText x w
fraction_taken x w first [] at cut is e small = alone (sym (ok_is (pos 1) x.den e)) (sym (join_with_byte-slice_split 47 w) ∙ ap (join_with_byte 47) cut ∙ is)
fraction_taken x w first (part ∷ []) at cut is e small =
    over (
    sym (join_with_byte-slice_split 47 w) ∙ ap (join_with_byte 47) cut
    ∙ ap (λ v. v ++ (47 ∷ part)) is ∙ ap (λ v. signed_decimal x.num ++ (47 ∷ v)) (numbered at part x.den small e)
    ∙ sym (append_assoc (signed_decimal x.num) (47 ∷ []) (signed_decimal x.den)))
fraction_taken x w first (part ∷ other ∷ parts) at cut is e small = absurd cc

-- A numerator and a denominator.
abbrev pub pair : ℤ → ℤ → ℤ × ℤ
pair a b = (a, b)

range_den : (n : ℕ) (d : ℤ) → pos n ≡ d → 1 ≤ n → n ≤ GREATEST_DENOMINATOR → (pos 1 ≤ℤ d) × (d ≤ℤ pos GREATEST_DENOMINATOR)
range_den n d e low high = subst (λ (y : ℤ). (pos 1 ≤ℤ y) × (y ≤ℤ pos GREATEST_DENOMINATOR)) e (omega (arith, ints), omega (arith, ints))

first_part : (w : List ℕ) → slashed w ≡ first_of (slashed w) ∷ others_of (slashed w)
first_part w = sym (begun (slashed w) (omega (arith, length-slice_split (λ x. x == 47) w)))

-- the digits of a number of either sign are no other byte
signed_lacks : (m : ℕ) (x : ℤ) → is_ascii_digit m ≡ false → (45 == m) ≡ false → unsigned_abs x < 10 ^ 64 → Lacks m (signed_decimal x)
signed_lacks m (pos n) other minus h = digits_lack m n other h
signed_lacks m (negsuc n) other minus h = let digits : Lacks m (decimal (suc n)) = digits_lack m (suc n) other h in rw (minus, digits) refl

-- A denominator in range, as a number.
record IsSize (d : ℤ) : Type 0 where
  size : ℕ
  is : d ≡ pos size
  low : 1 ≤ size
  high : size ≤ GREATEST_DENOMINATOR

size_is : (d : ℤ) → (pos 1 ≤ℤ d) × (d ≤ℤ pos GREATEST_DENOMINATOR) → IsSize d
size_is (pos n) h = record { size = n; is = refl; low = omega (arith, ints, h.0); high = omega (arith, ints, h.1) }
size_is (negsuc n) h = absurd (omega (arith, ints, h.0))

-- A cost whose numerator is at most so great.
pub record IsCostWithin (greatest : ℕ) (x : Frac) : Type 0 where
  pub num : LiesWithin greatest x.num
  pub den : (pos 1 ≤ℤ x.den) × (x.den ≤ℤ pos GREATEST_DENOMINATOR)

abbrev pub with_place : ℤ × ℤ → Place → (ℤ × ℤ) × Place
with_place c q = (c, q)

-- What the line of a cost says.
pub record SaysCost (greatest : ℕ) (word : List ℕ) (p : Place) (x : Frac) (q : Place) : Type 0 where
  pub spelling : List ℕ
  pub spells : IsFractionText x spelling
  pub text : Takes p (line_text (word ∷ spelling ∷ [])) q
  pub range : IsCostWithin greatest x

module _ (greatest : ℕ) (limit : greatest ≤ GREATEST_COST) where
  cost_taken : (at : ℕ) (w : List ℕ) (x : Frac) → cost_in greatest at w ≡ Ok (parts_of x) → IsFractionText x w × IsCostWithin greatest x
  unfolding cost_in
  cost_taken at w x e =
      let n = bind_ok (number_at at (first_of (slashed w))) _ (parts_of x) e in
      let d = bind_ok (denominator_at at (others_of (slashed w))) _ (parts_of x) n.2 in
      let c = provided_ok (nat_le (unsigned_abs n.0) greatest) (Limit at what.Cost) _ (parts_of x) d.2 in
      let s = bind_ok (natural_in at what.Cost 1 GREATEST_DENOMINATOR d.0) _ (parts_of x) c.1 in
      let range = natural_in_takes at what.Cost 1 GREATEST_DENOMINATOR d.0 s.0 s.1 in
      let both : pair n.0 (pos s.0) ≡ parts_of x = ok_is (pair n.0 (pos s.0)) (parts_of x) s.2 in
      let num : n.0 ≡ x.num = ap (λ (y : ℤ × ℤ). y.0) both in
      let den : pos s.0 ≡ x.den = ap (λ (y : ℤ × ℤ). y.1) both in
      let size : unsigned_abs x.num ≤ greatest = subst (λ (y : ℤ). unsigned_abs y ≤ greatest) num (leb-true (unsigned_abs n.0) greatest c.0) in
      let top : number_at at (first_of (slashed w)) ≡ Ok x.num = n.1 ∙ ap reads num in
      let bottom : denominator_at at (others_of (slashed w)) ≡ Ok x.den = d.1 ∙ ap reads (range.0 ∙ den) in (
        fraction_taken x w (first_of (slashed w)) (others_of (slashed w)) at (first_part w)
            (numbered at (first_of (slashed w)) x.num (omega (arith, size)) top) bottom (omega (arith, ap unsigned_abs den, range.2)),
        record { num = within_size greatest x.num size; den = range_den s.0 x.den den range.1 range.2 },
      )

  cost_made : (at : ℕ) (x : Frac) → IsCostWithin greatest x → cost_of greatest at x.num x.den ≡ Ok (parts_of x)
  cost_made at x h =
      let d = size_is x.den h.den in
      let range : natural_in at what.Cost 1 GREATEST_DENOMINATOR x.den ≡ Ok d.size =
      ap (natural_in at what.Cost 1 GREATEST_DENOMINATOR) d.is ∙ rw (le-leb 1 d.size d.low, le-leb d.size GREATEST_DENOMINATOR d.high) refl in
      provided_again (nat_le (unsigned_abs x.num) greatest) (Limit at what.Cost) _ _ (le-leb (unsigned_abs x.num) greatest (size_within greatest x.num h.num))
      (bind_again _ _ _ _ range (ap (λ (y : ℤ). reads (pair x.num y)) (sym d.is)))

  small_num : (x : Frac) → IsCostWithin greatest x → unsigned_abs x.num < 10 ^ 64
  small_num x h = let size = size_within greatest x.num h.num in omega (arith, size)

  small_den_of : (x : Frac) → IsCostWithin greatest x → unsigned_abs x.den < 10 ^ 64
  small_den_of x h = let d = size_is x.den h.den in let is : unsigned_abs x.den ≡ d.size = ap unsigned_abs d.is in omega (arith, is, d.high)

  cost_in_again : (at : ℕ) (w : List ℕ) (x : Frac) → IsFractionText x w → IsCostWithin greatest x → cost_in greatest at w ≡ Ok (parts_of x)
  unfolding cost_in
  cost_in_again at w x (alone one is) h =
      let cut : slashed w ≡ signed_decimal x.num ∷ [] = ap slashed is ∙ parts-whole 47 (signed_decimal x.num) (signed_lacks 47 x.num refl refl (small_num x h)) in
      rw cut (
      bind_again _ _ _ _ (numbered_again at x.num (small_num x h)) (
      bind_again _ (cost_of greatest at x.num) _ _ (ap reads (sym one)) (cost_made at x h)))
  cost_in_again at w x (over is) h =
      let num = signed_decimal x.num in
      let den = signed_decimal x.den in
      let cut : slashed w ≡ num ∷ den ∷ [] =
      ap slashed (is ∙ append_assoc num (47 ∷ []) den) ∙ parts-first 47 num den (signed_lacks 47 x.num refl refl (small_num x h))
      ∙ ap (λ (ws : List (List ℕ)). num ∷ ws) (parts-whole 47 den (signed_lacks 47 x.den refl refl (small_den_of x h))) in
      rw cut (
      bind_again _ _ _ _ (numbered_again at x.num (small_num x h)) (
      bind_again _ _ _ _ (numbered_again at x.den (small_den_of x h)) (cost_made at x h)))

  fraction_lacks : (m : ℕ) (w : List ℕ) (x : Frac) → is_ascii_digit m ≡ false → (45 == m) ≡ false → (47 == m) ≡ false → IsFractionText x w → IsCostWithin greatest x → Lacks m w
  fraction_lacks m w x other minus slash (alone one is) h = subst (Lacks m) (sym is) (signed_lacks m x.num other minus (small_num x h))
  fraction_lacks m w x other minus slash (over is) h =
      let num = signed_decimal x.num in
      let den = signed_decimal x.den in
      let top = signed_lacks m x.num other minus (small_num x h) in
      let bottom = signed_lacks m x.den other minus (small_den_of x h) in
      subst (Lacks m) (sym (is ∙ append_assoc num (47 ∷ []) den)) (list_any-append (λ y. y == m) num (47 ∷ den) ∙ rw (top, slash, bottom) refl)

  pub cost_line_takes : (word : List ℕ) (p : Place) (x : Frac) (q : Place) → cost_line_at word greatest p ≡ Ok (parts_of x, q) → SaysCost greatest word p x q
  unfolding cost_line_at
  cost_line_takes word p x q e =
      let last : (ℤ × ℤ) × Place = with_place (parts_of x) q in
      let l = bind_ok (field_line_at word p) _ last e in
      let m = bind_ok (cost_in greatest p.at l.0.0) _ last l.2 in
      let both : with_place m.0 l.0.1 ≡ last = ok_is (with_place m.0 l.0.1) last m.2 in
      let is : m.0 ≡ parts_of x = ap (λ (y : (ℤ × ℤ) × Place). y.0) both in
      let place : l.0.1 ≡ q = ap (λ (y : (ℤ × ℤ) × Place). y.1) both in
      let taken = cost_taken p.at l.0.0 x (m.1 ∙ ap reads is) in
      record {
        spelling = l.0.0;
        spells = taken.0;
        text = subst (Takes p (line_text (word ∷ l.0.0 ∷ []))) place (field_line_takes word p l.0 l.1);
        range = taken.1;
      }

  pub cost_line_again : (word : List ℕ) (at : ℕ) (w : List ℕ) (x : Frac) (rest : List ℕ) → IsField word → IsFractionText x w
      → IsCostWithin greatest x → Gets (cost_line_at word greatest (record { at = at; rest = line_text (word ∷ w ∷ []) ++ rest })) (parts_of x) rest
  unfolding cost_line_at
  cost_line_again word at w x rest worded is h =
      let field : IsField w = plain_word w (fraction_lacks 32 w x refl refl refl is h) (fraction_lacks 10 w x refl refl refl is h) in
      let line = field_line_again word w at rest worded field in
      (line.0, rw (line.1, cost_in_again at w x is h) refl)
