-- Values written one after the other, and all at once.
use Rattle.std.proofs.Common.{◌≡◌, List, [], ◌∷◌, filter, Bool, true, false, cond, refl, sym, ap, ◌∙◌, subst}
use Rattle.std.proofs.lemmas.Bool.{ne_eqb, eq-eqb}
use Rattle.art_tree.specs.Leaves.{Numbered, AreDistinct, Lacks, with_value}
use Rattle.art_tree.specs.Pairs.{pairs_of}
use Rattle.art_walk.specs.declared.cursor.Cursor.{Cursor}
use Rattle.art_walk.specs.Cursor.{leaves_left}
use Rattle.art_walk.specs.Lent.{written_all}
use Rattle.blart_map.specs.Content.{pairs}
use Rattle.blart_map.specs.OnceWritten.{rewritten, all_rewritten}
use Rattle.art_edits.proofs.Numbers.{lacks_filter}

module _ {K V : Type 0} (f : K × V → V) where
  -- a first pair with another number is unchanged
  after_front : (left ps : List (Numbered K V)) (p : Numbered K V) → Lacks left p.0 → written_all f left (p ∷ ps) ≡ p ∷ written_all f left ps
  after_front [] ps p l = refl
  after_front (q ∷ left) ps p l = rw (ne_eqb p.0 q.0 (λ e. l.0 (sym e))) (after_front left (with_value ps q.0 (f q.1)) p l.1)

  -- the first pair is written first
  front_written : (p : Numbered K V) (ps rest : List (Numbered K V)) → written_all f (p ∷ rest) (p ∷ ps) ≡ written_all f rest ((p.0, (p.1.0, f p.1)) ∷ ps)
  front_written p ps rest = ap (λ b. written_all f rest (cond b ((p.0, (p.1.0, f p.1)) ∷ ps) (p ∷ with_value ps p.0 (f p.1)))) (eq-eqb p.0 p.0 refl)

  module _ (t : K × V → Bool) where
    some_written : (ps : List (Numbered K V)) → AreDistinct ps → pairs_of (written_all f (filter (λ p. t p.1) ps) ps) ≡ rewritten t f (pairs_of ps)
    some_written [] d = refl
    some_written (p ∷ ps) d = elim (t p.1) as (λ b. pairs_of (written_all f (cond b (p ∷ filter (λ p. t p.1) ps) (filter (λ p. t p.1) ps)) (p ∷ ps)) ≡ cond b (p.1.0, f p.1) p.1 ∷ rewritten t f (pairs_of ps)) [
      | true ↦
          ap pairs_of (front_written p ps (filter (λ p. t p.1) ps) ∙ after_front (filter (λ p. t p.1) ps) ps (p.0, (p.1.0, f p.1)) (lacks_filter (λ p. t p.1) ps p.0 d.0))
          ∙ ap (λ l. (p.1.0, f p.1) ∷ l) (some_written ps d.1)
      | false ↦ ap pairs_of (after_front (filter (λ p. t p.1) ps) ps p (lacks_filter (λ p. t p.1) ps p.0 d.0)) ∙ ap (λ l. p.1 ∷ l) (some_written ps d.1)
    ]

  every_written : (ps : List (Numbered K V)) → AreDistinct ps → pairs_of (written_all f ps ps) ≡ all_rewritten f (pairs_of ps)
  every_written [] d = refl
  every_written (p ∷ ps) d = ap pairs_of (front_written p ps ps ∙ after_front ps ps (p.0, (p.1.0, f p.1)) d.0) ∙ ap (λ l. (p.1.0, f p.1) ∷ l) (every_written ps d.1)

  module _ (ps left : List (Numbered K V)) (d : AreDistinct ps) where
    -- the pairs that pass a test are written
    pub filtered_written : (t : K × V → Bool) → left ≡ filter (λ p. t p.1) ps → pairs (written_all f left ps) ≡ rewritten t f (pairs ps)
    unfolding pairs
    filtered_written t e = ap (λ l. pairs_of (written_all f l ps)) e ∙ some_written t ps d

    -- each pair is written
    pub all_written : left ≡ ps → pairs (written_all f left ps) ≡ all_rewritten f (pairs ps)
    unfolding pairs
    all_written e = ap (λ l. pairs_of (written_all f l ps)) e ∙ every_written ps d

  -- ---- a walk that is opened

  module _ (c c' : Cursor) (ps qs rs : List (Numbered K V)) (view : ps ≡ qs) (same : rs ≡ qs) (d : AreDistinct qs) (cs : c' ≡ c) where
    -- over the pairs that pass a test, and their values are written
    pub opened_written : (t : K × V → Bool) → leaves_left c ps ≡ filter (λ p. t p.1) ps → pairs (written_all f (leaves_left c' rs) rs) ≡ rewritten t f (pairs qs)
    opened_written t left =
        filtered_written rs (leaves_left c' rs) (subst AreDistinct (sym same) d) t (ap (λ k. leaves_left k rs) cs ∙ subst (λ (l : List (Numbered K V)). leaves_left c l ≡ filter (λ p. t p.1) l) (view ∙ sym same) left)
        ∙ ap (λ l. rewritten t f (pairs l)) same

  -- over all pairs, and their values are written
  pub all_opened : (rs qs left : List (Numbered K V)) → AreDistinct qs → rs ≡ qs → left ≡ qs → pairs (written_all f left rs) ≡ all_rewritten f (pairs qs)
  all_opened rs qs left d same e = all_written rs left (subst AreDistinct (sym same) d) (e ∙ sym same) ∙ ap (λ l. all_rewritten f (pairs l)) same
