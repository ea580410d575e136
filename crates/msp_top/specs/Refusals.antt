-- The refusal for each way in which a call of another crate fails. No public contract cites this file.
use Rattle.std.specs.Prelude.{ℕ}
use Rattle.msp_class.specs.declared.class.Class.{Class}
use Rattle.msp_io.specs.declared.whole.Taken.{Taken}
use Rattle.msp_io.specs.declared.whole.Taken.TheVariants as taken
use Rattle.msp_grammar.specs.declared.lines.fault.FileFault.{FileFault}
use Rattle.msp_results.specs.declared.fault.ResultFault.{ResultFault}
use Rattle.msp_dispatch.specs.declared.Cannot.{Cannot}
use Rattle.msp_dispatch.specs.declared.Uncertified.{Uncertified as WhyUncertified}
use Rattle.msp_top.specs.declared.refusal.Refusal.{Refusal}
use Rattle.msp_top.specs.declared.notes.Note.TheVariants.{Usage, CannotRead, CannotWrite, OutOfMemory, TooLong, File, Unsolved, Uncertified, Unchecked, Results}
use Rattle.msp_top.specs.declared.words.Misfit.{Misfit}
use Rattle.msp_top.specs.Files.{file_status}
use Rattle.msp_top.specs.Cannots.{cannot_status, uncertified_status}
use Rattle.msp_top.specs.Results.{results_status}

abbrev pub out_of_memory : Refusal
out_of_memory = record { status = 9; note = OutOfMemory }

-- of an input that may have so many bytes
abbrev pub of_taken : ℕ → Taken → Refusal
of_taken limit taken.ReadFault = record { status = 7; note = CannotRead }
of_taken limit taken.TooLong = record { status = 4; note = TooLong limit }
of_taken limit taken.Memory = out_of_memory

abbrev pub of_write_fault : Refusal
of_write_fault = record { status = 8; note = CannotWrite }

abbrev pub of_file_fault : FileFault → Refusal
of_file_fault fault = record { status = file_status fault; note = File fault }

abbrev pub of_cannot : Cannot → Refusal
of_cannot cannot = record { status = cannot_status cannot; note = Unsolved cannot }

abbrev pub of_uncertified : WhyUncertified → Refusal
of_uncertified why = record { status = uncertified_status why; note = Uncertified why }

abbrev pub of_unchecked : Class → Refusal
of_unchecked class = record { status = 5; note = Unchecked class }

abbrev pub of_result_fault : ResultFault → Refusal
of_result_fault fault = record { status = results_status fault; note = Results fault }

abbrev pub of_misfit : Misfit → Refusal
of_misfit misfit = record { status = 2; note = Usage misfit }
