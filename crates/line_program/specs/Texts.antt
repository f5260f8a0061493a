-- What a clause reads of a reply.
use Rattle.std.specs.Prelude.{ℕ, List, ◌++◌, codes, decimal}
use Rattle.line_program.specs.declared.text.ReplyLine.{ReplyLine}
use Rattle.line_program.specs.declared.text.ReplyLine.TheVariants.{None as Nothing, Value, Old, End, Len, Removed, RefusedPrefix, RefusedMemory, RefusedBounds, RefusedLine}

-- a reply's text
abbrev pub text_of : ReplyLine → List ℕ
text_of Nothing = codes "none"
text_of (Value n) = decimal n
text_of (Old n) = codes "old " ++ decimal n
text_of (End count) = codes "end " ++ decimal count
text_of (Len count) = codes "len " ++ decimal count
text_of (Removed count) = codes "removed " ++ decimal count
text_of RefusedPrefix = codes "refused prefix"
text_of RefusedMemory = codes "refused memory"
text_of RefusedBounds = codes "refused bounds"
text_of RefusedLine = codes "refused line"
