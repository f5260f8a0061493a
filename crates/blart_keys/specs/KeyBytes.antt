-- The bytes of keys, with a name for each type of keys.
use Rattle.std.specs.Prelude.{ℕ, ℤ, List, [], ◌∷◌, Vec}
use Rattle.std.specs.Global.{Global}
use Rattle.std.specs.Int.{to_be_bytes, w16, w32, w64, w128}
use denote.Ref.{Bor}
use Rattle.blart_keys.specs.Keys.{flipped}
use Rattle.blart_keys.specs.declared.zkey.ZKey.{ZKey}
use Rattle.blart_keys.specs.declared.zstr.ZStr.{ZStr}
use Rattle.blart_keys.specs.declared.zstr.ZQuery.{ZQuery}
use Rattle.std.specs.Vec.{vec_capacity}

-- of a `u8`
abbrev pub u8_bytes : ℕ → List ℕ
u8_bytes x = x ∷ []

-- of a `[u8; N]`
abbrev pub array_bytes : List ℕ → List ℕ
array_bytes a = a

-- of a `&[u8]` or a `&str`
abbrev pub slice_bytes : Bor (List ℕ) → List ℕ
slice_bytes s = s.now

-- of a `Vec<u8>`
abbrev pub vec_bytes : Vec ℕ Global → List ℕ
vec_bytes v = v.items

-- of a `U16Key`
abbrev pub u16_bytes : ℕ → List ℕ
u16_bytes n = to_be_bytes w16 n

-- of a `U32Key`
abbrev pub u32_bytes : ℕ → List ℕ
u32_bytes n = to_be_bytes w32 n

-- of a `U64Key`
abbrev pub u64_bytes : ℕ → List ℕ
u64_bytes n = to_be_bytes w64 n

-- of a `U128Key`
abbrev pub u128_bytes : ℕ → List ℕ
u128_bytes n = to_be_bytes w128 n

-- of an `I32Key`
abbrev pub i32_bytes : ℤ → List ℕ
i32_bytes z = to_be_bytes w32 (flipped w32 z)

-- of an `I64Key`
abbrev pub i64_bytes : ℤ → List ℕ
i64_bytes z = to_be_bytes w64 (flipped w64 z)

-- of a `ZKey`
abbrev pub zkey_bytes : ZKey → List ℕ
zkey_bytes k = k.bytes.items

-- of a `ZStr`
abbrev pub zstr_bytes : ZStr → List ℕ
zstr_bytes k = k.bytes.now

-- of a `ZQuery`
abbrev pub zquery_bytes : ZQuery → List ℕ
zquery_bytes q = q.bytes.items

-- how many bytes a `ZQuery` has room for, the zero among them
abbrev pub zquery_room : ZQuery → ℕ
zquery_room q = vec_capacity q.bytes

-- of a reference to a key
abbrev pub ref_bytes : {T : Type 0} → (T → List ℕ) → Bor T → List ℕ
ref_bytes bytes r = bytes r.now
