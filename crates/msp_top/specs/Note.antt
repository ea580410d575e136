-- The texts of the notes that the code makes. No public contract cites this file.
use Rattle.std.specs.Prelude.{ℕ, List, codes}
use Rattle.msp_top.specs.declared.notes.Note.{Note}
use Rattle.msp_top.specs.declared.notes.Note.TheVariants.{Usage, TooLong, File, Unsolved, Uncertified, Unchecked, Results, CannotRead, CannotWrite, OutOfMemory}
use Rattle.msp_top.specs.declared.words.Misfit.{Misfit}
use Rattle.msp_top.specs.declared.words.Misfit.TheVariants.{Form, Name, Number}
use Rattle.msp_top.specs.Usage.{misfit_text, misspelled_text, misnumbered_text}
use Rattle.msp_top.specs.Run.{too_long_text}
use Rattle.msp_grammar.specs.lines.Faults.{file_text}
use Rattle.msp_top.specs.Cannots.{cannot_text, uncertified_text}
use Rattle.msp_top.specs.Checks.{unchecked_text}
use Rattle.msp_results.specs.Faults.{results_text}

abbrev pub usage_note : Misfit → List ℕ
usage_note Form = misfit_text
usage_note (Name place fault) = misspelled_text place fault
usage_note (Number place least greatest) = misnumbered_text place least greatest

abbrev pub note_text : Note → List ℕ
note_text (Usage misfit) = usage_note misfit
note_text (TooLong limit) = too_long_text limit
note_text (File fault) = file_text fault
note_text (Unsolved cannot) = cannot_text cannot
note_text (Uncertified why) = uncertified_text why
note_text (Unchecked class) = unchecked_text class
note_text (Results fault) = results_text fault
note_text CannotRead = codes "cannot read"
note_text CannotWrite = codes "cannot write"
note_text OutOfMemory = codes "out of memory"
