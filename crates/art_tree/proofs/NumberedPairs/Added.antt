-- A pair that was added by its key.
use Rattle.std.proofs.Common.{◌≡◌, ℕ, false, true, sym, ap, ◌∙◌, Result, Ok, Err, option_map, bytes_eq}
use Rattle.std.specs.Prelude.{IsErr}
use Rattle.std.specs.declared.alloc.AllocError.{AllocError}
use Rattle.blart_keys.specs.Bytes.{related}
use Rattle.blart_keys.specs.Steps.{bytes as pair_bytes}
use Rattle.blart_keys.proofs.Mapped.{find-map, list_any-map, put_map}
use Rattle.blart_keys.proofs.RankLemmas.{Member}
use Rattle.art_kinds.specs.Nodes.{Nodes}
use Rattle.art_tree.specs.Begins.{Bytes}
use Rattle.art_tree.specs.Adding.{Adds}
use Rattle.art_tree.specs.Calls.Placing.{PutsPair, content_of}
use Rattle.art_tree.specs.Content.{Content}
use Rattle.art_tree.specs.Leaves.{Leaves, Numbered, bytes}
use Rattle.art_tree.specs.declared.tree.add.Added.{Added}
use Rattle.art_tree.specs.declared.tree.add.Added.TheVariants.{Placed}
use Rattle.art_tree.proofs.CallerLemmas.{alone_no_conflict, alone_absent, alone_none, conflict_pairs}

module _ {K V : Type 0} (kb : K → Bytes) (x : K × V) where
  -- the pair was placed, if no key is related to its key
  pub adds_placed : (old new : Leaves K V) (nodes nodes' : Nodes) (id : ℕ) → ((y : Numbered K V) → Member y old.pairs → related (bytes kb y) (kb x.0) ≡ false) → PutsPair kb old.pairs new.pairs id x → Adds kb (content_of old nodes) (content_of new nodes') x (Ok Placed)
  adds_placed old new nodes nodes' id alone p = (
    (
      conflict_pairs kb old.pairs (kb x.0) ∙ alone_no_conflict (bytes kb) old.pairs (kb x.0) alone,
      put_map (λ p. p.1) (pair_bytes kb) old.pairs new.pairs (id, x) p.put,
      sym (find-map (λ p. p.1) (λ y. bytes_eq (kb y.0) (kb x.0)) old.pairs ∙ ap (option_map (λ p. p.1)) (alone_none (bytes kb) old.pairs (kb x.0) alone)),
    ),
    record { id = id; now = p.now; fresh = p.fresh; others = p.others },
  )

  -- the addition failed to allocate
  pub adds_refused : (old new : Content K V) (r : Result (Added ℕ K V) AllocError) → IsErr r → ((y : Numbered K V) → Member y old.pairs → related (bytes kb y) (kb x.0) ≡ false) → new.pairs ≡ old.pairs → Adds kb old new x r
  adds_refused old new (Ok added) is alone same = absurd (let f : false ≡ true = is in cc)
  adds_refused old new (Err e) is alone same = (
    conflict_pairs kb old.pairs (kb x.0) ∙ alone_no_conflict (bytes kb) old.pairs (kb x.0) alone,
    list_any-map (λ p. p.1) (λ y. bytes_eq (kb y.0) (kb x.0)) old.pairs ∙ alone_absent (bytes kb) old.pairs (kb x.0) alone,
    same,
  )
