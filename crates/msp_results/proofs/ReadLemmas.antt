-- The entries, read one by one.
use Rattle.std.proofs.Common.{◌≡◌, ◌≤◌, ℕ, ◌+◌, List, [], ◌∷◌, ◌++◌, refl, ap, ◌∙◌, true, false, Result, Ok, Err, arith, append_assoc}
use Rattle.std.proofs.lemmas.Bool.{le-ltb}
use Rattle.std.specs.Prelude.{nat_lt}
use Rattle.msp_results.specs.declared.limits.TheConstants.{MOST_ENTRIES}
use Rattle.csv.specs.declared.reader.Reader.{Reader}
use Rattle.msp_closure.specs.declared.entry.Entry.{Entry}
use Rattle.msp_results.specs.declared.fault.ResultFault.{ResultFault}
use Rattle.msp_results.specs.declared.version.Version.{Version}
use Rattle.msp_results.specs.Reading.{after, row_read, entries_read}
use Rattle.msp_results.specs.Records.{IsReading, NextRow, rows_left}
use denote.Ref.{Bor}

-- what is left gives the answer of the whole
pub record Going (version : Version) (start now : Reader (Bor (List ℕ))) (at : ℕ) (entries : List Entry) : Type 0 where
  pub reading : IsReading now
  pub low : 1 ≤ at
  pub high : at ≤ MOST_ENTRIES + 1
  pub same : after entries (entries_read version at (rows_left now)) ≡ entries_read version 1 (rows_left start)

after-after : (xs : List Entry) (e : Entry) (r : Result (List Entry) ResultFault) → after (xs ++ (e ∷ [])) r ≡ after xs (after (e ∷ []) r)
after-after xs e (Ok es) = ap (λ v. Ok v) (append_assoc xs (e ∷ []) es)
after-after xs e (Err f) = refl

-- one entry more
pub Going-more : (version : Version) (start now new : Reader (Bor (List ℕ))) (at : ℕ) (entries : List Entry) (fields : List (List ℕ)) (e : Entry)
    → Going version start now at entries → NextRow true now fields new → at ≤ MOST_ENTRIES → Ok e ≡ row_read version at fields
    → Going version start new (at + 1) (entries ++ (e ∷ []))
Going-more version start now new at entries fields e g next few read =
    let low = g.low in
    let under : nat_lt MOST_ENTRIES at ≡ false = le-ltb MOST_ENTRIES at few in
    record {
      reading = next.1;
      low = omega arith;
      high = omega arith;
      same = after-after entries e (entries_read version (at + 1) (rows_left new)) ∙ rw (next.0, under, ← read) at g.same;
    }
