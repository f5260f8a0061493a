-- How a run ends.
use Rattle.std.specs.Prelude.{◌≡◌, ◌≢◌, ℕ, List, [], ◌∷◌, ◌++◌, Result, Ok, Err, Bool, true, false}
use Rattle.line_program.specs.declared.error.RunError.{RunError}
use Rattle.line_program.specs.declared.error.RunError.TheVariants.{Read, Write, Memory}
use Rattle.line_program.specs.Lines.{Splits, with_last}
use Rattle.line_program.specs.Replies.{Replies, BeginsReplies}

-- the marks of the reader and of the writer after a run: they tell which end failed
abbrev pub IsMarked : Result (Unit {0}) RunError → Bool → Bool → Type 0
IsMarked (Ok done) reader_mark writer_mark = (reader_mark ≡ false) × (writer_mark ≡ false)
IsMarked (Err Read) reader_mark writer_mark = (reader_mark ≡ true) × (writer_mark ≡ false)
IsMarked (Err Write) reader_mark writer_mark = (reader_mark ≡ false) × (writer_mark ≡ true)
IsMarked (Err Memory) reader_mark writer_mark = (reader_mark ≡ false) × (writer_mark ≡ false)

-- how a run ends that read `read`, left `rest` and wrote `written`, with the marks of both ends
abbrev pub RunEnds : Result (Unit {0}) RunError → Bool → Bool → List ℕ → List ℕ → List ℕ → Type 0
-- all was read, and all lines have replies
RunEnds (Ok done) reader_mark writer_mark read rest written =
    (reader_mark ≡ false) × (writer_mark ≡ false) × (rest ≡ [])
    × (lines : List (List ℕ)) × (open_bytes : List ℕ) × Splits read lines open_bytes × Replies (with_last lines open_bytes) written
-- the reader failed, and the lines that were ended have replies
RunEnds (Err Read) reader_mark writer_mark read rest written =
    (reader_mark ≡ true) × (lines : List (List ℕ)) × (open_bytes : List ℕ) × Splits read lines open_bytes × Replies lines written
-- the writer failed and took a prefix of the replies; an open line has one only if no input is left
RunEnds (Err Write) reader_mark writer_mark read rest written =
    (writer_mark ≡ true) × (lines : List (List ℕ)) × (open_bytes : List ℕ) × Splits read lines open_bytes
    × BeginsReplies (with_last lines open_bytes) written × (rest ≢ [] → BeginsReplies lines written)
-- a line did not fit, and the lines before it have replies
RunEnds (Err Memory) reader_mark writer_mark read rest written =
    (reader_mark ≡ false) × (writer_mark ≡ false) × (lines : List (List ℕ)) × (open_bytes : List ℕ) × Splits read lines open_bytes
    × (before : List (List ℕ)) × (line : List ℕ) × (after : List (List ℕ)) × (with_last lines open_bytes ≡ before ++ line ∷ after) × Replies before written
