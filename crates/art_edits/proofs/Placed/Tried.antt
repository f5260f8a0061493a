-- What an insertion returns to its callers, if there was room for it.
use Rattle.std.proofs.Common.{◌≡◌, ℕ, ◌+◌, true, false, List, length, Option, Some, Result, Ok, Err, IfOk, OnOk, OnErr, option_map}
use Rattle.std.specs.Prelude.{is_some, if◌then◌else◌}
use Rattle.blart_keys.specs.declared.calls.InsertPrefixError.{InsertPrefixError}
use Rattle.blart_keys.specs.Bytes.{begins}
use Rattle.blart_keys.specs.Content.{IsContent}
use Rattle.blart_keys.specs.Steps.{bytes, Puts}
use Rattle.blart_keys.specs.Stored.{kept, value_at, pair_at_front, overlaps, Updates}
use Rattle.blart_keys.proofs.StoredLemmas.{kept_bytes, puts_old, puts_updates, puts_value_len, puts_routes, puts_free}
use Rattle.art_edits.specs.Reserved.{as_tried}

module _ {K V : Type 0} (kb : K → List ℕ) (S : List (K × V)) (x : K × V) (S' : List (K × V)) where
  abbrev Tried : Result (Option V) InsertPrefixError → Type 0
  Tried r = Puts kb (option_map (λ pair. pair.1)) S x (kept kb S x) (as_tried r) S'

  pub tried_old : (r : Result (Option V) InsertPrefixError) → Tried r → IfOk r (λ old. old ≡ value_at kb S (kb x.0))
  tried_old (Ok old) put = puts_old kb (option_map (λ pair. pair.1)) S x (kept kb S x) (kept_bytes kb S x) S' (Ok old) put
  tried_old (Err e) put = tt

  pub tried_updates : (r : Result (Option V) InsertPrefixError) → IsContent (bytes kb) S → Tried r → OnOk r (Updates kb S S' (kb x.0) (Some (kept kb S x)))
  tried_updates (Ok old) content put = puts_updates kb (option_map (λ pair. pair.1)) S x (kept kb S x) (kept_bytes kb S x) S' (Ok old) content put
  tried_updates (Err e) content put = tt

  pub tried_len : (r : Result (Option V) InsertPrefixError) → IsContent (bytes kb) S → Tried r → IfOk r (λ old. length S' ≡ length S + (if is_some old then 0 else 1))
  tried_len (Ok old) content put = puts_value_len kb S x (kept kb S x) (kept_bytes kb S x) S' (Ok old) content put
  tried_len (Err e) content put = tt

  pub tried_routes : (r : Result (Option V) InsertPrefixError) → IsContent (bytes kb) S → Tried r → OnOk r ((q : List ℕ) → pair_at_front kb S' q ≡ (if begins (kb x.0) q then Some (kept kb S x) else pair_at_front kb S q))
  tried_routes (Ok old) content put = puts_routes kb (option_map (λ pair. pair.1)) S x (kept kb S x) (kept_bytes kb S x) S' (Ok old) content put
  tried_routes (Err e) content put = tt

  pub tried_free : (r : Result (Option V) InsertPrefixError) → Tried r → OnOk r (overlaps kb S (kb x.0) ≡ false)
  tried_free (Ok old) put = puts_free kb (option_map (λ pair. pair.1)) S x (kept kb S x) (kept_bytes kb S x) S' (Ok old) put
  tried_free (Err e) put = tt

  -- an error is returned only for a conflict
  pub tried_why : (r : Result (Option V) InsertPrefixError) → Tried r → OnErr r (overlaps kb S (kb x.0) ≡ true)
  unfolding overlaps
  tried_why (Ok old) put = tt
  tried_why (Err e) put = put.0
