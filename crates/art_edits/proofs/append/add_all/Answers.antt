use Rattle.std.proofs.Common.{◌≡◌, suc, [], ◌∷◌, ◌++◌, length, arith, refl, sym, ap, ◌∙◌, subst, append-nil, append_assoc}
use Rattle.blart_keys.specs.Content.{IsContent}
use Rattle.blart_keys.specs.Merges.{IsUnion}
use Rattle.blart_keys.specs.Steps.{bytes}
use Rattle.blart_keys.proofs.Mapped.{content_map}
use Rattle.art_tree.specs.Pairs.{pairs_of}
use Rattle.art_edits.proofs.Moved.Appending.{fresh_after, union_all, union_step}
use Rattle.art_edits.proofs.append.add_all.Goals as goal

pub loop-key-init : goal.loop-key-init
loop-key-init g c = record {
  moved = [];
  whole = refl;
  union = union_all (bytes g.K.AsBytes.bytes) (pairs_of c.args.to.now.pairs) (content_map (λ p. p.1) (bytes g.K.AsBytes.bytes) c.args.to.now.pairs c.law.ensures.content);
  room = c.requires.room;
}

pub loop-key-smaller : goal.loop-key-smaller
loop-key-smaller g c = let less : length c.loop-key.from.pairs ≡ suc (length c.take_first.new.self.pairs) = ap length c.in-Some.ensures in omega arith

pub loop-key-preserved : goal.loop-key-preserved
loop-key-preserved g c =
    let kb = g.K.AsBytes.bytes in
    let i = c.loop-key.invariant in
    let rest = c.take_first.new.self.pairs in
    let x : g.row.K.Denot × g.row.V.Denot = (c.in-Some.key, c.in-Some.value) in
    let taken = c.in-Some.ensures in
    let whole = i.whole ∙ ap (λ l. i.moved ++ l) taken in
    let content = c.requires.content in
    let fresh = fresh_after (bytes kb) i.moved rest x (subst (IsContent (bytes kb)) whole content) in
    let less : length c.loop-key.from.pairs ≡ suc (length rest) = ap length taken in
    record {
      moved = i.moved ++ x ∷ [];
      whole = whole ∙ sym (append_assoc i.moved (x ∷ []) rest);
      union = union_step (bytes kb) (pairs_of c.args.to.now.pairs) i.moved (pairs_of c.loop-key.to.pairs) (pairs_of c.insert_absent_reserved.new.tree.pairs) x i.union fresh c.insert_absent_reserved.ensures.added (λ t. ap pairs_of (c.insert_absent_reserved.ensures.stays t));
      room = omega (arith, c.insert_absent_reserved.ensures.room, i.room);
    }

pub returns : goal.returns
returns g c =
    let i = c.loop-key.invariant in
    let whole = i.whole ∙ ap (λ l. i.moved ++ l) c.in_default.ensures.0 ∙ append-nil i.moved in
    subst (λ A. IsUnion (bytes g.K.AsBytes.bytes) (pairs_of c.args.to.now.pairs) A (pairs_of c.loop-key.to.pairs)) (sym whole) i.union
