-- The lines after the kind: what is read is the text of the proof, and the text of a proof is read as it.
use Rattle.std.proofs.Common.{◌≡◌, ℕ, suc, ◌+◌, ◌*◌, ◌<◌, ◌≤◌, ◌^◌, List, [], ◌∷◌, ◌++◌, length, Result, Ok, ℤ, All, codes, refl, sym, ap, subst, ◌∙◌, append_assoc, append-nil}
use Rattle.std.proofs.Common.{length-append, arith, decimal}
use Rattle.std.specs.Fmt.{signed_decimal}
use Rattle.std.proofs.lemmas.List.{length-map}
use Rattle.std.proofs.lemmas.List.Elements.{All-nil}
use Rattle.msp_instance.specs.Conditions.{LiesWithin}
use Rattle.msp_text.specs.JobName.{IsJobName, AreDistinct}
use Rattle.msp_cert.specs.declared.Proof.{Proof}
use Rattle.msp_cert.specs.declared.Proof.TheVariants as proof
use Rattle.msp_grammar.specs.ScheduleText.{name_at}
use Rattle.msp_grammar.specs.InstanceText.{line_text}
use Rattle.msp_grammar.specs.declared.lines.fault.FileFault.{FileFault}
use Rattle.msp_grammar.specs.declared.lines.fault.What.{What}
use Rattle.msp_grammar.specs.declared.lines.fault.What.TheVariants as what
use Rattle.msp_cert_text.specs.declared.kinds.Kind.{Kind}
use Rattle.msp_cert_text.specs.declared.kinds.Kind.TheVariants as kind
use Rattle.msp_cert.specs.declared.limits.TheConstants.{GREATEST_HEAD, GREATEST_PRICE}
use Rattle.msp_cert_text.specs.declared.kinds.TheConstants.{GREATEST_LEVEL, MOST_LINES}
use Rattle.msp_cert_text.specs.CertificateText.{kind_of, job_lines, numbered_lines, segment_lines, column_lines, kind_lines, lines_text, IsStatedProof}
use Rattle.msp_cert_text.specs.Reading.{machine_line_at, job_line_of, tail_at, numbers_at, level_at, head_at, price_at, jobs_step, segments_step}
use Rattle.msp_cert_text.specs.Reading.{columns_step, segments_from, filled, proof_at, group_proof, machine_proof, line_proof}
use Rattle.msp_cert_text.specs.Reading.{levels_proof, segments_proof, block_proof, prices_proof}
use Rattle.msp_grammar.specs.lines.Reading.{◌>>=◌, Place, word_line_at, field_line_at, natural_at, known_at, machine_at, lines_from}
use Rattle.msp_grammar.proofs.reading.LineLaws.{bind_ok, ok_is, bind_again, Takes, Gets, Takes-then, word_line_takes, word_line_again, field_line_takes, field_line_again, end_text}
use Rattle.msp_grammar.proofs.reading.FieldLaws.{wide_takes, wide_again, wide_field, known_takes, known_again, name_field, signed_takes, signed_again, signed_field, ordinal_takes, ordinal_again}
use Rattle.msp_cert_text.proofs.CertificatePrinting.{lines_text-append}
use Rattle.msp_cert_text.proofs.KindLaws.{MoreTaken, more_takes, more_first}
use Rattle.msp_cert_text.proofs.NumberedLaws.{IsReadBy, numbers_said, numbers_again}
use Rattle.msp_cert_text.proofs.JobLists.{AreJobLines, jobs_takes, jobs_again, AreListLines, segments_takes, segments_again}
use Rattle.msp_cert_text.proofs.ColumnLaws.{AreColumns, columns_takes, columns_again, lines-filled, length-filled, all_filled}

-- ---- numbers

natural_read : (quantity : What) (greatest : ℕ) → greatest + 1 < 10 ^ 64 → IsReadBy (λ at w. natural_at at quantity 0 greatest w) decimal (λ n. n ≤ greatest)
natural_read quantity greatest small = record {
  takes = λ at w x e. let t = wide_takes at quantity 0 greatest w x (omega arith) e in (t.0, t.2);
  again = λ at x h. wide_again at quantity 0 greatest x (omega arith) (omega arith) h;
  field = λ x h. wide_field x (omega arith);
}

level_read : IsReadBy level_at decimal (λ l. l ≤ GREATEST_LEVEL)
level_read = natural_read what.Level GREATEST_LEVEL (omega arith)

head_read : IsReadBy head_at decimal (λ h. h ≤ GREATEST_HEAD)
head_read = natural_read what.Head GREATEST_HEAD (omega arith)

price_read : IsReadBy price_at signed_decimal (LiesWithin GREATEST_PRICE)
price_read = record {
  takes = λ at w x e. signed_takes at what.Price GREATEST_PRICE w x (omega arith) e;
  again = λ at x h. signed_again at what.Price GREATEST_PRICE x (omega arith) h;
  field = λ x h. signed_field x (omega arith) h;
}

pub numbered_length : {A : Type 0} (word : List ℕ) (spell : A → List ℕ) (names : List (List ℕ)) (xs : List A) → length xs ≡ length names → length (numbered_lines word spell names xs) ≡ length xs
numbered_length word spell [] [] h = refl
numbered_length word spell [] (x ∷ xs) h = absurd (omega arith)
numbered_length word spell (name ∷ names) [] h = absurd (omega arith)
numbered_length word spell (name ∷ names) (x ∷ xs) h = ap suc (numbered_length word spell names xs (omega arith))

-- ---- single lines

-- the value in the one field of a line, where a field is read as what it spells
pub value_takes : {A : Type 0} (word : List ℕ) (read : List ℕ → Result A FileFault) (spell : A → List ℕ) (Good : A → Type 0) (p : Place) (x : A × Place)
    → ((w : List ℕ) (a : A) → read w ≡ Ok a → (w ≡ spell a) × Good a) → (field_line_at word p >>= λ l. read l.0 >>= λ a. Ok (a, l.1)) ≡ Ok x
    → Takes p (line_text (word ∷ spell x.0 ∷ [])) x.1 × Good x.0
value_takes word read spell Good p x takes e =
    let l = bind_ok (field_line_at word p) _ x e in
    let a = bind_ok (read l.0.0) _ x l.2 in
    let t = takes l.0.0 a.0 a.1 in
    subst (λ y. Takes p (line_text (word ∷ spell y.0 ∷ [])) y.1 × Good y.0) (ok_is (a.0, l.0.1) x a.2)
    (subst (λ (w : List ℕ). Takes p (line_text (word ∷ w ∷ [])) l.0.1) t.0 (field_line_takes word p l.0 l.1), t.1)

machine_takes : (machines : ℕ) (p : Place) (x : ℕ × Place)
    → machines < 10 ^ 64 → machine_line_at machines p ≡ Ok x → Takes p (line_text (codes "machine" ∷ decimal (x.0 + 1) ∷ [])) x.1 × (x.0 < machines)
unfolding machine_line_at
machine_takes machines p x small = value_takes (codes "machine") (machine_at p.at machines) (λ m. decimal (m + 1)) (λ m. m < machines)
    p x (λ w m. ordinal_takes p.at what.Machines machines w m small)

machine_again : (machines m at : ℕ) (rest : List ℕ) → machines < 10 ^ 64
    → m < machines → Gets (machine_line_at machines (record { at = at; rest = line_text (codes "machine" ∷ decimal (m + 1) ∷ []) ++ rest })) m rest
unfolding machine_line_at
machine_again machines m at rest small h =
    let l = field_line_again (codes "machine") (decimal (m + 1)) at rest (record { no_space = refl; no_line_feed = refl }) (wide_field (m + 1) (omega arith)) in
    (l.0, bind_again _ _ _ _ l.1 (bind_again _ _ _ _ (ordinal_again at what.Machines machines m small h) refl))

job_takes : (names : List (List ℕ)) (p : Place) (x : ℕ × Place) → job_line_of names p ≡ Ok x → Takes p (line_text (codes "job" ∷ name_at names x.0 ∷ [])) x.1 × (x.0 < length names)
unfolding job_line_of
job_takes names p x = value_takes (codes "job") (known_at p.at names) (name_at names) (λ j. j < length names) p x (known_takes p.at names)

job_again : (names : List (List ℕ)) (j at : ℕ) (rest : List ℕ) → AreDistinct names → All IsJobName names
    → j < length names → Gets (job_line_of names (record { at = at; rest = line_text (codes "job" ∷ name_at names j ∷ []) ++ rest })) j rest
unfolding job_line_of
job_again names j at rest apart spelled h =
    let l = field_line_again (codes "job") (name_at names j) at rest (record { no_space = refl; no_line_feed = refl }) (name_field _ (spelled j [] h)) in
    (l.0, bind_again _ _ _ _ l.1 (bind_again _ _ _ _ (known_again at names j apart spelled h) refl))

tail_takes : (p : Place) (x : ℕ × Place) → tail_at p ≡ Ok x → Takes p (line_text (codes "tail" ∷ decimal x.0 ∷ [])) x.1 × (x.0 ≤ GREATEST_LEVEL)
unfolding tail_at
tail_takes p x =
    value_takes (codes "tail") (natural_at p.at what.Level 0 GREATEST_LEVEL) decimal (λ t. t ≤ GREATEST_LEVEL) p x (level_read.takes p.at)

tail_again : (t at : ℕ) (rest : List ℕ) → t ≤ GREATEST_LEVEL → Gets (tail_at (record { at = at; rest = line_text (codes "tail" ∷ decimal t ∷ []) ++ rest })) t rest
unfolding tail_at
tail_again t at rest h =
    let l = field_line_again (codes "tail") (decimal t) at rest (record { no_space = refl; no_line_feed = refl }) (level_read.field t h) in
    (l.0, bind_again _ _ _ _ l.1 (bind_again _ _ _ _ (level_read.again at t h) refl))

-- ---- what is read is the text of the proof

-- What the lines after the kind say.
pub record SaysProof (names : List (List ℕ)) (machines : ℕ) (k : Kind) (p : Place) (x : Proof) (q : Place) : Type 0 where
  pub is : kind_of x ≡ k
  pub text : Takes p (lines_text (kind_lines names x) ++ end_text) q
  pub few : length (kind_lines names x) ≤ MOST_LINES
  pub numbers : IsStatedProof names machines x

-- lines up to the end that begin with none, and such lines after others
taken_text : {A : Type 0} (L : A → List (List (List ℕ))) (Fit : A → Type 0) (d e : A) (p q : Place) → L d ≡ [] → MoreTaken L Fit d p e q → Takes p (lines_text (L e) ++ end_text) q
taken_text L Fit d e p q none t = subst (λ (ls : List (List (List ℕ))). Takes p (lines_text ls ++ end_text) q) (sym (t.added ∙ ap (λ ls. ls ++ t.more) none)) t.text

after_lines : (p q r : Place) (a b : List (List (List ℕ))) → Takes p (lines_text a) q → Takes q (lines_text b ++ end_text) r → Takes p (lines_text (a ++ b) ++ end_text) r
after_lines p q r a b t u =
    subst (λ (text : List ℕ). Takes p text r) (sym (append_assoc (lines_text a) (lines_text b) end_text) ∙ ap (λ text. text ++ end_text) (sym (lines_text-append a b)))
    (Takes-then p q r (lines_text a) (lines_text b ++ end_text) t u)

then_end : (p q r : Place) (w : List (List ℕ)) → Takes p (line_text w) q → Takes q end_text r → Takes p (lines_text (w ∷ []) ++ end_text) r
then_end p q r w t u =
    subst (λ (text : List ℕ). Takes p (text ++ end_text) r) (sym (append-nil (line_text w))) (Takes-then p q r (line_text w) end_text t u)

module _ (names : List (List ℕ)) (machines : ℕ) (named : length names < 10 ^ 64) (small : machines < 10 ^ 64) where
  jobs_say : (before : ℕ) (p : Place) (x : List ℕ × Place) → before ≤ MOST_LINES
      → lines_from (jobs_step names before) [] p ≡ Ok x → Takes p (lines_text (job_lines names x.0) ++ end_text) x.1 × AreJobLines names before x.0
  jobs_say before p x room e =
      let t = more_takes (jobs_step names before) (job_lines names)
      (AreJobLines names before) (jobs_takes names before) [] p x (record { inside = All-nil (λ j. j < length names); few = omega arith }) e in
      (taken_text (job_lines names) (AreJobLines names before) [] x.0 p x.1 refl t, t.fit)

  pub proof_says : (k : Kind) (p : Place) (y : Proof × Place) → proof_at names machines k p ≡ Ok y → SaysProof names machines k p y.0 y.1
  unfolding group_proof machine_proof line_proof levels_proof segments_proof block_proof prices_proof
  proof_says kind.Group p y h =
      let l = bind_ok (lines_from (jobs_step names 0) [] p) _ y h in
      let t = jobs_say 0 p l.0 (omega arith) l.1 in
      subst (λ (z : Proof × Place). SaysProof names machines kind.Group p z.0 z.1) (ok_is (proof.Group l.0.0, l.0.1) y l.2)
      (record { is = refl; text = t.0; few = omega (arith, t.1.few, length-map l.0.0 (λ j. codes "job" ∷ name_at names j ∷ [])); numbers = t.1.inside })
  proof_says kind.Machine p y h =
      let m = bind_ok (machine_line_at machines p) _ y h in
      let e = bind_ok (word_line_at (codes "end") m.0.1) _ y m.2 in
      let t = machine_takes machines p m.0 small m.1 in
      subst (λ (z : Proof × Place). SaysProof names machines kind.Machine p z.0 z.1) (ok_is (proof.Machine m.0.0, e.0) y e.2)
      (record { is = refl; text = then_end p m.0.1 e.0 (codes "machine" ∷ decimal (m.0.0 + 1) ∷ []) t.0 (word_line_takes (codes "end") m.0.1 e.0 e.1); few = omega arith; numbers = t.1 })
  proof_says kind.Line p y h =
      let j = bind_ok (job_line_of names p) _ y h in
      let e = bind_ok (word_line_at (codes "end") j.0.1) _ y j.2 in
      let t = job_takes names p j.0 j.1 in
      subst (λ (z : Proof × Place). SaysProof names machines kind.Line p z.0 z.1) (ok_is (proof.Line j.0.0, e.0) y e.2)
      (record { is = refl; text = then_end p j.0.1 e.0 (codes "job" ∷ name_at names j.0.0 ∷ []) t.0 (word_line_takes (codes "end") j.0.1 e.0 e.1); few = omega arith; numbers = t.1 })
  proof_says kind.Levels p y h =
      let t = bind_ok (tail_at p) _ y h in
      let l = bind_ok (numbers_at level_at (codes "level") 1 [] names t.0.1) _ y t.2 in
      let e = bind_ok (word_line_at (codes "end") l.0.1) _ y l.2 in
      let tail = tail_takes p t.0 t.1 in
      let says = numbers_said level_at decimal (λ l. l ≤ GREATEST_LEVEL) level_read (codes "level") 1 names t.0.1 l.0 (omega arith) l.1 in
      let line = codes "tail" ∷ decimal t.0.0 ∷ [] in
      let lines = numbered_lines (codes "level") decimal names l.0.0 in
      let both = Takes-then p t.0.1 l.0.1 (line_text line) (lines_text lines) tail.0 says.text in
      subst (λ (z : Proof × Place). SaysProof names machines kind.Levels p z.0 z.1) (ok_is (proof.Levels l.0.0 t.0.0, e.0) y e.2) (record {
        is = refl;
        text = Takes-then p l.0.1 e.0 (line_text line ++ lines_text lines) end_text both (word_line_takes (codes "end") l.0.1 e.0 e.1);
        few = omega (arith, numbered_length (codes "level") decimal names l.0.0 says.each, says.room);
        numbers = (says.each, says.good, tail.1);
      })
  proof_says kind.Segments p y h =
      let l = bind_ok (segments_from names p) _ y h in
      let t = more_first (segments_step names) (segment_lines names) (AreListLines names)
      (segments_takes names) [] p l.0 (record { inside = All-nil (λ jobs. All (λ j. j < length names) jobs); few = omega arith }) l.1 in
      subst (λ (z : Proof × Place). SaysProof names machines kind.Segments p z.0 z.1) (ok_is (proof.Segments l.0.0, l.0.1) y l.2)
      (record { is = refl; text = taken_text (segment_lines names) (AreListLines names) [] l.0.0 p l.0.1 refl t; few = t.fit.few; numbers = t.fit.inside })
  proof_says kind.Block p y h =
      let n = bind_ok (numbers_at head_at (codes "head") 0 [] names p) _ y h in
      let l = bind_ok (lines_from (jobs_step names (length n.0.0)) [] n.0.1) _ y n.2 in
      let says = numbers_said head_at decimal (λ h. h ≤ GREATEST_HEAD) head_read (codes "head") 0 names p n.0 (omega arith) n.1 in
      let heads = numbered_lines (codes "head") decimal names n.0.0 in
      let t = jobs_say (length n.0.0) n.0.1 l.0 (omega (arith, says.room)) l.1 in
      subst (λ (z : Proof × Place). SaysProof names machines kind.Block p z.0 z.1) (ok_is (proof.Block n.0.0 l.0.0, l.0.1) y l.2) (record {
        is = refl;
        text = after_lines p n.0.1 l.0.1 heads (job_lines names l.0.0) says.text t.0;
        few = omega (
          arith,
          t.1.few,
          length-append heads (job_lines names l.0.0),
          numbered_length (codes "head") decimal names n.0.0 says.each,
          length-map l.0.0 (λ j. codes "job" ∷ name_at names j ∷ []),
        );
        numbers = (says.each, says.good, t.1.inside);
      })
  proof_says kind.Prices p y h =
      let n = bind_ok (numbers_at price_at (codes "row") 0 [] names p) _ y h in
      let l = bind_ok (lines_from (columns_step (length names) machines (length n.0.0)) [] n.0.1) _ y n.2 in
      let says = numbers_said price_at signed_decimal (LiesWithin GREATEST_PRICE) price_read (codes "row") 0 names p n.0 (omega arith) n.1 in
      let rows = numbered_lines (codes "row") signed_decimal names n.0.0 in
      let jobs = length names in
      let before = length n.0.0 in
      let none : AreColumns jobs machines named small before [] = record { inside = omega arith; prices = All-nil _; few = omega (arith, says.room) } in
      let t = more_takes (columns_step jobs machines before) (column_lines jobs 0)
      (AreColumns jobs machines named small before) (columns_takes jobs machines named small before) [] n.0.1 l.0 none l.1 in
      let column = filled (machines * jobs) l.0.0 in
      let text = taken_text (column_lines jobs 0) (AreColumns jobs machines named small before) [] l.0.0 n.0.1 l.0.1 refl t in
      let lines : column_lines jobs 0 column ≡ column_lines jobs 0 l.0.0 = lines-filled jobs (machines * jobs) l.0.0 in
      let columns : Takes n.0.1 (lines_text (column_lines jobs 0 column) ++ end_text) l.0.1 = subst (λ (ls : List (List (List ℕ))). Takes n.0.1 (lines_text ls ++ end_text) l.0.1) (sym lines) text in
      subst (λ (z : Proof × Place). SaysProof names machines kind.Prices p z.0 z.1) (ok_is (proof.Prices n.0.0 column, l.0.1) y l.2) (record {
        is = refl;
        text = after_lines p n.0.1 l.0.1 rows (column_lines jobs 0 column) says.text columns;
        few = omega (arith, t.fit.few, ap length lines, length-append rows (column_lines jobs 0 column), numbered_length (codes "row") signed_decimal names n.0.0 says.each);
        numbers = (says.each, says.good, length-filled (machines * jobs) l.0.0 t.fit.inside, all_filled jobs machines named small (machines * jobs) l.0.0 t.fit.prices);
      })

-- ---- the text of a proof is read as it

-- the first line, and the lines after it
line_first : (line lines rest : List ℕ) → ((line ++ lines) ++ end_text) ++ rest ≡ line ++ ((lines ++ end_text) ++ rest)
line_first line lines rest = ap (λ text. text ++ rest) (append_assoc line lines end_text) ∙ append_assoc line (lines ++ end_text) rest

lines_first : (a b : List (List (List ℕ))) (rest : List ℕ) → (lines_text (a ++ b) ++ end_text) ++ rest ≡ lines_text a ++ ((lines_text b ++ end_text) ++ rest)
lines_first a b rest = ap (λ text. (text ++ end_text) ++ rest) (lines_text-append a b) ∙ line_first (lines_text a) (lines_text b) rest

module _ (names : List (List ℕ)) (machines : ℕ) (named : length names < 10 ^ 64) (small : machines < 10 ^ 64) (apart : AreDistinct names) (spelled : All IsJobName names) where
  -- Reading from the text of these lines on gives the proof and leaves the rest.
  abbrev GetsProof : Proof → List (List (List ℕ)) → ℕ → List ℕ → Type 0
  GetsProof x lines at rest = Gets (proof_at names machines (kind_of x) (record { at = at; rest = (lines_text lines ++ end_text) ++ rest })) x rest

  single_again : {A : Type 0} (x : Proof) (line : List (List ℕ)) (first : Place → Result (A × Place) FileFault) (make : A → Proof) (a : A) (at : ℕ) (rest : List ℕ)
      → ((q : Place) → proof_at names machines (kind_of x) q ≡ (first q >>= λ m. word_line_at (codes "end") m.1 >>= λ place. Ok (make m.0, place)))
      → make a ≡ x → ((rest : List ℕ) → Gets (first (record { at = at; rest = line_text line ++ rest })) a rest) → GetsProof x (line ∷ []) at rest
  single_again x line first make a at rest goes is h =
      let f = h (end_text ++ rest) in
      let e = word_line_again (codes "end") f.0 rest (record { no_space = refl; no_line_feed = refl }) in
      let text : (lines_text (line ∷ []) ++ end_text) ++ rest ≡ line_text line ++ (end_text ++ rest) = line_first (line_text line) [] rest in
      let first_is = ap (λ (b : List ℕ). first (record { at = at; rest = b })) text ∙ f.1 in
      (e.0, goes _ ∙ bind_again _ _ _ _ first_is (bind_again _ _ _ _ e.1 (ap (λ (y : Proof). Ok (y, record { at = e.0; rest = rest })) is)))

  pub proof_again : (x : Proof) (at : ℕ) (rest : List ℕ) → IsStatedProof names machines x → length (kind_lines names x) ≤ MOST_LINES → GetsProof x (kind_lines names x) at rest
  unfolding group_proof machine_proof line_proof levels_proof segments_proof block_proof prices_proof
  proof_again (proof.Group jobs) at rest h few =
      let g = jobs_again names 0 jobs [] at rest apart spelled h (omega (arith, length-map jobs (λ j. codes "job" ∷ name_at names j ∷ []))) _ (omega arith) in
      (g.0, bind_again _ _ _ _ g.1 refl)
  proof_again (proof.Machine machine) at rest h few =
      single_again (proof.Machine machine) (codes "machine" ∷ decimal (machine + 1) ∷ [])
      (machine_line_at machines) proof.Machine machine at rest (λ q. refl) refl (λ rest. machine_again machines machine at rest small h)
  proof_again (proof.Line job) at rest h few =
      single_again (proof.Line job) (codes "job" ∷ name_at names job ∷ []) (job_line_of names) proof.Line job at rest (λ q. refl) refl (λ rest. job_again names job at rest apart spelled h)
  proof_again (proof.Levels level tail) at rest h few =
      let lines = numbered_lines (codes "level") decimal names level in
      let line = line_text (codes "tail" ∷ decimal tail ∷ []) in
      let t = tail_again tail at ((lines_text lines ++ end_text) ++ rest) h.2 in
      let l = numbers_again level_at decimal (λ l. l ≤ GREATEST_LEVEL) level_read (codes "level") 1 names level [] t.0 (end_text ++ rest)
      (record { no_space = refl; no_line_feed = refl }) spelled h.0 h.1 (omega (arith, few, numbered_length (codes "level") decimal names level h.0)) in
      let e = word_line_again (codes "end") l.0 rest (record { no_space = refl; no_line_feed = refl }) in
      let first = ap (λ (b : List ℕ). tail_at (record { at = at; rest = b })) (line_first line (lines_text lines) rest) ∙ t.1 in
      let second = ap (λ (b : List ℕ). numbers_at level_at (codes "level") 1 [] names (record { at = t.0; rest = b })) (append_assoc (lines_text lines) end_text rest) ∙ l.1 in
      (e.0, bind_again _ _ _ _ first (bind_again _ _ _ _ second (bind_again _ _ _ _ e.1 refl)))
  proof_again (proof.Segments lists) at rest h few =
      let g = segments_again names apart spelled lists at rest h few in
      (g.0, bind_again _ _ _ _ g.1 refl)
  proof_again (proof.Block head jobs) at rest h few =
      let heads = numbered_lines (codes "head") decimal names head in
      let count = numbered_length (codes "head") decimal names head h.0 in
      let all = length-append heads (job_lines names jobs) in
      let long = length-map jobs (λ j. codes "job" ∷ name_at names j ∷ []) in
      let n = numbers_again head_at decimal (λ h. h ≤ GREATEST_HEAD) head_read (codes "head") 0 names head [] at
      ((lines_text (job_lines names jobs) ++ end_text) ++ rest) (record { no_space = refl; no_line_feed = refl }) spelled h.0 h.1 (omega (arith, few, count, all)) in
      let g = jobs_again names (length head) jobs [] n.0 rest apart spelled h.2 (omega (arith, few, count, all, long)) _ (omega arith) in
      let first = ap (λ (b : List ℕ). numbers_at head_at (codes "head") 0 [] names (record { at = at; rest = b })) (lines_first heads (job_lines names jobs) rest) ∙ n.1 in
      (g.0, bind_again _ _ _ _ first (bind_again _ _ _ _ g.1 refl))
  proof_again (proof.Prices row column) at rest h few =
      let jobs = length names in
      let rows = numbered_lines (codes "row") signed_decimal names row in
      let columns = column_lines jobs 0 column in
      let count = numbered_length (codes "row") signed_decimal names row h.0 in
      let all = length-append rows columns in
      let n = numbers_again price_at signed_decimal (LiesWithin GREATEST_PRICE) price_read (codes "row") 0 names row
      [] at ((lines_text columns ++ end_text) ++ rest) (record { no_space = refl; no_line_feed = refl }) spelled h.0 h.1 (omega (arith, few, count, all)) in
      let g = columns_again jobs machines named small (length row) column n.0 rest h.2 h.3 (omega (arith, few, count, all)) in
      let first = ap (λ (b : List ℕ). numbers_at price_at (codes "row") 0 [] names (record { at = at; rest = b })) (lines_first rows columns rest) ∙ n.1 in
      let c = g.2 _ (omega arith) in
      (c.0, bind_again _ _ _ _ first (bind_again _ _ _ _ c.1 (ap (λ (ys : List ℤ). Ok (proof.Prices row ys, record { at = c.0; rest = rest })) g.1)))
