-- What a contract sees of the slots of a store.
use Rattle.std.specs.Prelude.{ℕ, refl}
use Rattle.std.specs.Coded.{Coded, code_by, coded×, coded_ℕ}
use Rattle.art_slots.specs.Store.{Store, store_code, with_record}

-- the store of records and spare slots, the room for more, a number above all, and the next number
pub record Slots (T : Type 0) : Type 0 where
  pub store : Store T
  pub room : ℕ
  pub top : ℕ
  pub next : ℕ

-- slots are coded as the tuple of their fields
abbrev pub slots_code : {T : Type 0} → Coded T → Coded (Slots T)
slots_code {T} code =
    code_by
    (Store T × (ℕ × (ℕ × ℕ)))
    (coded× (store_code code) (coded× coded_ℕ (coded× coded_ℕ coded_ℕ)))
    (λ s. (s.store, (s.room, (s.top, s.next))))
    (λ p. record { store = p.0; room = p.1.0; top = p.1.1.0; next = p.1.1.1 })
    (λ _. refl)

-- the slots with another record at a number
abbrev pub with_slot : {T : Type 0} → Slots T → ℕ → T → Slots T
with_slot s id x = record s { store = with_record s.store id x }
