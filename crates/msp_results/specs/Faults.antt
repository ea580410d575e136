-- The texts of the faults.
use Rattle.std.specs.Prelude.{ℕ, List, ◌++◌, codes, decimal}
use Rattle.msp_name.specs.Faults.{fault_text}
use Rattle.msp_results.specs.declared.fault.ResultFault.{ResultFault}
use Rattle.msp_results.specs.declared.fault.ResultFault.TheVariants.{Header, Width, Name, Verdict, Source, Long, Many, Memory}

abbrev pub record_text : ℕ → List ℕ → List ℕ
record_text at what = codes "record " ++ decimal at ++ what

abbrev pub results_text : ResultFault → List ℕ
results_text Header = codes "header"
results_text (Width at) = record_text at (codes ": width")
results_text (Name at fault) = record_text at (codes ": name: " ++ fault_text fault)
results_text (Verdict at) = record_text at (codes ": verdict")
results_text (Source at) = record_text at (codes ": source")
results_text (Long at) = record_text at (codes ": limit of source")
results_text Many = codes "limit of records"
results_text Memory = codes "out of memory"
