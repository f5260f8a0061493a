-- A list of calls, made in turn.
use Rattle.std.specs.Prelude.{◌≡◌, ℕ, List, Result, Ok, Err, Vec}
use Rattle.std.specs.Global.{Global}
use Rattle.blart_keys.specs.declared.calls.Call.{Call}
use Rattle.blart_keys.specs.declared.calls.Reply.{Reply}
use Rattle.blart_keys.specs.Steps.{Run}

-- Each call is a step, and has its reply. If memory for the replies runs out, no call is made
abbrev pub Driven : {K V E : Type 0} → (K → List ℕ) → List (K × V) → List (Call K V) → Result (Vec (Reply K V) Global) E → List (K × V) → Type 0
Driven key_bytes S calls (Ok replies) S' = Run key_bytes S calls replies.items S'
Driven key_bytes S calls (Err e) S' = S' ≡ S
