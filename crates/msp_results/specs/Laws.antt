-- Each file is read in one way.
use Rattle.std.specs.Prelude.{◌≡◌, ℕ, List, Err}
use Rattle.msp_name.specs.OneWay.{AreReadOneWay}
use Rattle.msp_results.specs.declared.fault.ResultFault.{ResultFault}
use Rattle.msp_results.specs.Results.{ResultsOf}
use Rattle.msp_results.specs.Reading.{results_of}

-- The fault is the first that reading the bytes from the left comes to.
abbrev pub IsFirstFault : List ℕ → ResultFault → Type 0
IsFirstFault bytes fault = results_of bytes ≡ Err fault

-- Bytes list entries exactly where they have no first fault, and no two lists, and have no two first faults.
abbrev pub LawOfResults : Type 0
LawOfResults = AreReadOneWay ResultsOf IsFirstFault
