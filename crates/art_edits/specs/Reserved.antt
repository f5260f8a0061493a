-- Insertions for which there is room.
use Rattle.std.specs.Prelude.{ℕ, Option, Some, None, Result, Ok, Err}
use Rattle.blart_keys.specs.declared.calls.InsertPrefixError.{InsertPrefixError}
use Rattle.blart_keys.specs.declared.calls.TryInsertError.{TryInsertError}
use Rattle.blart_keys.specs.declared.calls.TryInsertError.TheVariants.{Prefix}

-- the result, in the type of an insertion that may fail to allocate
abbrev pub as_tried : {A : Type 0} → Result A InsertPrefixError → Result A TryInsertError
as_tried (Ok answer) = Ok answer
as_tried (Err e) = Err (Prefix e)

-- how many pairs an insertion added, by the old value that it returned
abbrev pub added : {V : Type 0} → Option V → ℕ
added None = 1
added (Some old) = 0

-- the same for an insertion that may return an error
abbrev pub added_ok : {V E : Type 0} → Result (Option V) E → ℕ
added_ok (Ok old) = added old
added_ok (Err e) = 0
