-- The lines on errors.
use Rattle.std.specs.Prelude.{ℕ, List, codes}
use Rattle.line_program.specs.declared.error.RunError.{RunError}
use Rattle.line_program.specs.declared.error.RunError.TheVariants.{Read, Write, Memory}

-- what the program says of an error
abbrev pub fault_text : RunError → List ℕ
fault_text Read = codes "artmap: read failed"
fault_text Write = codes "artmap: write failed"
fault_text Memory = codes "artmap: out of memory"
