-- What a contract sees of a dense slab.
use Rattle.std.specs.Prelude.{◌≡◌, ℕ, List, Option, Some, None, map, slice_index_or, slice_set, refl}
use Rattle.std.specs.Coded.{Coded, code_by, coded×, coded_ℕ, coded_list}

-- the values at the keys 0, 1, 2 and so on, the slab's next key, and how many values fit in memory
pub record Dense (T : Type 0) : Type 0 where
  pub items : List T
  pub next : ℕ
  pub capacity : ℕ

-- a dense slab is coded as the tuple of its fields
abbrev pub dense_code : {T : Type 0} → Coded T → Coded (Dense T)
dense_code {T} code =
    code_by
    (List T × (ℕ × ℕ))
    (coded× (coded_list code) (coded× coded_ℕ coded_ℕ))
    (λ d. (d.items, (d.next, d.capacity)))
    (λ p. record { items = p.0; next = p.1.0; capacity = p.1.1 })
    (λ _. refl)

module _ {T : Type 0} where
  -- the slots have these values at the keys 0, 1, 2 and so on, and no other key has a value
  abbrev pub Holds : List (Option T) → List T → Type 0
  Holds slots items =
      (key : ℕ) → slice_index_or slots key None ≡ slice_index_or (map Some items) key None

  -- the dense slab with another value at a key
  abbrev pub with_item : Dense T → ℕ → T → Dense T
  with_item d key value = record d { items = slice_set d.items key value }
