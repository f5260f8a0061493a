-- The results of the map are replies to commands.
use Rattle.std.proofs.Common.{◌≡◌, ℕ, List, [], ◌∷◌, ◌++◌, length, codes, decimal, Option, option_map, Result, refl, sym, ap, subst, ◌∙◌, inl, inr, Vec, Global, true, ◌==◌, ◌||◌}
use Rattle.std.specs.declared.ops.Bound.TheVariants.{Included, Excluded}
use Rattle.std.proofs.lemmas.List.{length-map}
use Rattle.blart_keys.specs.declared.calls.TryInsertError.{TryInsertError}
use Rattle.blart_keys.specs.Bounds.{in_order}
use Rattle.blart_keys.specs.Content.{at, front_of, subtree, under, between, without, IsOver}
use Rattle.blart_keys.specs.Outside.{outside}
use Rattle.blart_keys.specs.Steps.{Puts}
use Rattle.blart_keys.specs.Stored.{kept}
use Rattle.line_program.specs.Command.{Insert, Get, Remove, RemovePrefix, PrefixGet, Overwrite, ListPrefix}
use Rattle.line_program.specs.Results.{HasResultOrFails, inserted_text, value_text, found_text, listing, range_lines, pair_bytes}
use Rattle.line_program.specs.Content.{Stored, by_bytes, pair_of}
use Rattle.line_program.proofs.Views.{value-view, front-view, under-view, between-view, Puts-view, Over-view, subtree-view, without-view, outside-view}

-- the bytes of a stored pair
abbrev stored_bytes : Vec ℕ Global × ℕ → List ℕ
stored_bytes pair = pair.0.items

-- the result is a reply to `get`
pub gets : (S : Stored) (key found text : List ℕ) (value : Option ℕ) → key ≡ found → value ≡ option_map (λ pair. pair.1) (at stored_bytes S found) → text ≡ value_text value
    → HasResultOrFails (by_bytes S) (Get key) (text ∷ []) (by_bytes S)
gets S key found text value same is shown =
    inl (refl, ap (λ t. t ∷ []) (shown ∙ ap value_text (is ∙ sym (value-view (λ (k : Vec ℕ Global). k.items) S found) ∙ ap (λ q. option_map (λ pair. pair.1) (at pair_bytes (by_bytes S) q)) (sym same))))

-- to `remove`
pub removes : (S T : Stored) (key found text : List ℕ) (value : Option ℕ) → key ≡ found → value ≡ option_map (λ pair. pair.1) (at stored_bytes S found)
    → T ≡ without stored_bytes S found → text ≡ value_text value → HasResultOrFails (by_bytes S) (Remove key) (text ∷ []) (by_bytes T)
removes S T key found text value same is left shown = inl (
  ap by_bytes left ∙ sym (without-view (λ (k : Vec ℕ Global). k.items) S found) ∙ ap (without pair_bytes (by_bytes S)) (sym same),
  ap (λ t. t ∷ []) (shown ∙ ap value_text (is ∙ sym (value-view (λ (k : Vec ℕ Global). k.items) S found) ∙ ap (λ q. option_map (λ pair. pair.1) (at pair_bytes (by_bytes S) q)) (sym same))),
)

-- to `remove-prefix`
pub removes_prefix : (S T : Stored) (key found : List ℕ) (count : ℕ) → key ≡ found → count ≡ length (under stored_bytes S found) → T ≡ outside stored_bytes S found
    → HasResultOrFails (by_bytes S) (RemovePrefix key) ((codes "removed " ++ decimal count) ∷ []) (by_bytes T)
removes_prefix S T key found count same is left =
    let seen : length (under pair_bytes (by_bytes S) found) ≡ length (under stored_bytes S found) = ap (λ (l : List (List ℕ × ℕ)). length l) (under-view (λ (k : Vec ℕ Global). k.items) S found) ∙ length-map (under stored_bytes S found) pair_of in
    inl (
      ap by_bytes left ∙ sym (outside-view (λ (k : Vec ℕ Global). k.items) S found) ∙ ap (outside pair_bytes (by_bytes S)) (sym same),
      ap (λ n. (codes "removed " ++ decimal n) ∷ []) (is ∙ sym seen ∙ ap (λ q. length (under pair_bytes (by_bytes S) q)) (sym same)),
    )

-- to `insert`
pub inserts : (S T : Stored) (key text : List ℕ) (found : Vec ℕ Global) (value : ℕ) (r : Result (Option ℕ) TryInsertError) → key ≡ found.items
    → Puts (λ (k : Vec ℕ Global). k.items) (option_map (λ pair. pair.1)) S (found, value) (kept (λ (k : Vec ℕ Global). k.items) S (found, value)) r T → text ≡ inserted_text r
    → HasResultOrFails (by_bytes S) (Insert key value) (text ∷ []) (by_bytes T)
inserts S T key text found value r same put shown =
    let seen = Puts-view (λ (k : Vec ℕ Global). k.items) S found value r T put in
    inl (r, subst (λ k. Puts (λ k. k) (option_map (λ pair. pair.1)) (by_bytes S) (k, value) (k, value) r (by_bytes T)) (sym same) seen, ap (λ t. t ∷ []) shown)

-- to `prefix-get`
pub finds : (S : Stored) (key found text : List ℕ) (front : Option (Vec ℕ Global × ℕ)) → key ≡ found → front ≡ front_of stored_bytes S found → text ≡ found_text (option_map pair_of front)
    → HasResultOrFails (by_bytes S) (PrefixGet key) (text ∷ []) (by_bytes S)
finds S key found text front same is shown =
    let seen : option_map pair_of front ≡ front_of pair_bytes (by_bytes S) found = ap (option_map pair_of) is ∙ sym (front-view (λ (k : Vec ℕ Global). k.items) S found) in
    inl (refl, ap (λ t. t ∷ []) (shown ∙ ap found_text (seen ∙ ap (front_of pair_bytes (by_bytes S)) (sym same))))

-- to `prefix`
pub lists_under : (S walk : Stored) (key found : List ℕ) → key ≡ found → walk ≡ under stored_bytes S found → HasResultOrFails (by_bytes S) (ListPrefix key) (listing (by_bytes walk)) (by_bytes S)
lists_under S walk key found same is =
    inl (refl, ap (λ l. listing (by_bytes l)) is ∙ ap listing (sym (under-view (λ (k : Vec ℕ Global). k.items) S found)) ∙ ap (λ q. listing (under pair_bytes (by_bytes S) q)) (sym same))

-- to `range`
pub lists_between : (S walk : Stored) (low high : List ℕ) → true ≡ ((length S == 0) || in_order (Included low) (Excluded high)) → walk ≡ between stored_bytes S (Included low) (Excluded high)
    → range_lines (by_bytes S) low high ≡ listing (by_bytes walk)
lists_between S walk low high taken is =
    rw (length-map S pair_of, ← taken) (ap listing (between-view (λ (k : Vec ℕ Global). k.items) S (Included low) (Excluded high)) ∙ sym (ap (λ l. listing (by_bytes l)) is))

-- and to `overwrite`, if it does not run out of memory
pub overwrites : (S T : Stored) (key : List ℕ) (found : Vec ℕ Global) (value count : ℕ) → key ≡ found.items → IsOver stored_bytes S (found, value) T → count ≡ length T
    → HasResultOrFails (by_bytes S) (Overwrite key value) ((codes "len " ++ decimal count) ∷ []) (by_bytes T)
overwrites S T key found value count same over is =
    let seen = Over-view (λ (k : Vec ℕ Global). k.items) S found value T over in
    let put : IsOver pair_bytes (by_bytes S) (key, value) (by_bytes T) = subst (λ k. IsOver pair_bytes (by_bytes S) (k, value) (by_bytes T)) (sym same) seen in
    inl (inl (put, ap (λ n. (codes "len " ++ decimal n) ∷ []) (is ∙ sym (length-map T pair_of))))

-- and if it does
pub overwrites_refused : (S T : Stored) (key : List ℕ) (found : Vec ℕ Global) (value : ℕ) → key ≡ found.items → subtree stored_bytes S found.items ≡ [] → T ≡ S
    → HasResultOrFails (by_bytes S) (Overwrite key value) (codes "refused memory" ∷ []) (by_bytes T)
overwrites_refused S T key found value same none is =
    let seen = subtree-view (λ (k : Vec ℕ Global). k.items) S found.items none in
    inl (inr (subst (λ k. subtree pair_bytes (by_bytes S) k ≡ []) (sym same) seen, ap by_bytes is, refl))
