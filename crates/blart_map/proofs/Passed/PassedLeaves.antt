-- A leaf that a cursor over a map has passed, and its removal.
use Rattle.std.proofs.Common.{◌≡◌, ℕ, true, false, List, Option, Some, None, IfSome, refl, sym, ap, ◌∙◌, subst}
use Rattle.blart_keys.specs.Content.{IsContent, without}
use Rattle.blart_keys.specs.Steps.{bytes as pair_bytes}
use Rattle.blart_keys.proofs.ContentLemmas.{at_member}
use Rattle.blart_keys.proofs.Mapped.{Member-map}
use Rattle.blart_keys.proofs.Options.{some_of}
use Rattle.art_tree.specs.Leaves.{Numbered, leaf_in, Has, AreDistinct, without_number, bytes}
use Rattle.art_tree.specs.Pairs.{pairs_of}
use Rattle.art_tree.proofs.CallerLemmas.{Member-from_leaf_in}
use Rattle.art_walk.specs.declared.cursor.Cursor.{Cursor}
use Rattle.art_walk.specs.Cursor.{leaves_left, FitsIn, PassesFirst, PassesLast}
use Rattle.art_walk.proofs.Changes.{left_without}
use Rattle.art_walk.proofs.Passing.{passed_at}
use Rattle.blart_map.specs.Passed.{WasFirst, WasLast, StaysLeft}
use Rattle.art_edits.proofs.Numbers.{removed_pairs, pairs_content}

module _ {K V : Type 0} (ps : List (Numbered K V)) (distinct : AreDistinct ps) where
  module _ (old new : Cursor) (before : FitsIn old ps) (fits : FitsIn new ps) where
    pub was_first : (r : Option ℕ) → IfSome r (λ id. Has ps id) → PassesFirst (leaves_left old ps) r (leaves_left new ps) → IfSome r (λ id. WasFirst ps old id new)
    was_first None has passes = tt
    was_first (Some id) has passes =
        let s = some_of (leaf_in ps id) has in
        let p = passed_at true ps old new distinct before fits id s.0 s.1 passes in
        record { pair = s.0; named = s.1; splits = p.splits; passed = p.lacks }

    pub was_last : (r : Option ℕ) → IfSome r (λ id. Has ps id) → PassesLast (leaves_left old ps) r (leaves_left new ps) → IfSome r (λ id. WasLast ps old id new)
    was_last None has passes = tt
    was_last (Some id) has passes =
        let s = some_of (leaf_in ps id) has in
        let p = passed_at false ps old new distinct before fits id s.0 s.1 passes in
        record { pair = s.0; named = s.1; splits = p.splits; passed = p.lacks }

  pub stays_left : (id : ℕ) (rs : List (Numbered K V)) → rs ≡ without_number ps id → StaysLeft ps id rs
  stays_left id rs e c fits lacks = subst (λ (l : List (Numbered K V)). FitsIn c l × (leaves_left c l ≡ leaves_left c ps)) (sym e) (left_without c ps id distinct fits lacks)

-- without the pair of a number, the pairs are those with other bytes
pub taken_pairs : {K V : Type 0} (kb : K → List ℕ) (ps : List (Numbered K V)) → IsContent (bytes kb) ps → (id : ℕ) (x : K × V) → leaf_in ps id ≡ Some x → (rs : List (Numbered K V)) → rs ≡ without_number ps id → pairs_of rs ≡ without (pair_bytes kb) (pairs_of ps) (kb x.0)
taken_pairs {K} {V} kb ps content id x e rs gone =
    let there = at_member (pair_bytes kb) (pairs_of ps) (pairs_content kb ps (kb x.0) content) (kb x.0) x (Member-map (λ (p : Numbered K V). p.1) (id, x) ps (Member-from_leaf_in ps id x e)) refl in
    ap pairs_of gone ∙ removed_pairs kb ps (kb x.0) content id x (sym there) e
