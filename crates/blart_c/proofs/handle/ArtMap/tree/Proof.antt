-- `tree` reads the pointer, and lends what lies behind it; the handle follows.
use Rattle.std.proofs.Common.{◌≡◌, ℕ, List, [], ◌∷◌, refl}
use base.Fraction.{full_share}
use mir.Syntax.{named}
use mir.Raw.{raw as bare}
use mir.Val.{Val, vptr}
use seplogic.Ra.Ura.{Ura}
use base.Logic.{ent, sep, id⊢}
use base.Fml.{GName, Fml, ftrue, fsep, flft}
use types.Logic.{Logic, sem}
use types.Kit.{‵, raw, ◌⊛◌, some, later, at_ret, ◌$◌, ◌∵◌, !, qed, move, keep, use1, split, split3, join, fsplit, fsplit3, fjoin, fpack, pick, rewrite, await, group, suffices, frame, done}
use types.Part.{whole, sub, look_in}
use types.Run.{stop, fld, load, of_opd, addr, first, blocks, exec, returns, enter}
use types.ByLocal.{alloc_all, pass_all, free_all, look_at, get, through, sets, sets_last, env}
use contract.Running.{tables}
use denote.Exit.{no}
use denote.Follow.{follows, Part, lends_Part}
use denote.Memory.{cell_at, part_at, part_of, mem}
use denote.RawPtr.{block_ptr}
use denote.Ref.{MutBor, MutRef, mut_vals, mut_Tells}
use denote.Signature.{plain, mut_ref_to}
use denote.Steps.{nothing, opens}
use denote.Triple.Walked.{says, Stays, stay_dropped, walk_of, ends_at, Goes-spent_ref}
use Rattle.std.proofs.raw_atomic.Walks.{proved}
use Rattle.std.proofs.alloc.Calls.{token}
use Rattle.std.proofs.VecSteps.Shapes.{after}
use Rattle.std.proofs.BoxSteps.Form.{D, B, τ, word, handle}
use Rattle.std.proofs.BoxSteps.Steps.{box_out, box_in}
use Rattle.blart_c.proofs.AsBox.{E}
use Rattle.blart_c.specs.Lent.{with_tree}
use Rattle.blart_c.specs.contracts.tree.Tree.{the_row as R}
use Rattle.blart_c.specs.contracts.handle.ArtMap.{the_row as Hd}
use Rattle.blart_c.specs.contracts.handle.ArtMap.tree as f
use Rattle.blart_c.proofs.handle.ArtMap.tree.Statement.{statement}
use Rattle.blart_c.proofs.handle.ArtMap.tree.Code as code

abbrev stayed : Stays f.ended.signature.params f.ended.kept
stayed = (stay_dropped (mut_ref_to (0 ∷ []) tt (plain (λ _. Hd))) no, tt)

-- the handle as a box
abbrev held : Hd.Denot → D E
held m = record { ptr = m.at; alloc = m.alloc; value = m.tree }

-- all of the handle but the tree
abbrev Rest : Hd.Denot → ℕ → ℕ → Val → ℕ → ℕ → Fml
Rest m b o h rb ro = fsep (fsep (token E.al m.alloc (bare (τ E)) (block_ptr b o)) (handle E m.alloc h)) (cell_at full_share Hd.mir (word E h b o ∷ []) rb ro)

module _ {M : Type 1} {𝓤 : Ura M} (𝓛 : Logic 𝓤) (m : Hd.Denot) (b o : ℕ) (h : Val) (rb ro : ℕ) where
  -- with any tree in its place, the handle is whole again
  back : m.at ≡ block_ptr b o → (w : R.Denot) → ent 𝓤 (sep 𝓤 (sem 𝓛 ((mem R).own_at w b o)) (sem 𝓛 (Rest m b o h rb ro))) (sem 𝓛 ((mem Hd).own_at (with_tree m w) rb ro))
  unfolding part_of
  back at_b w =
      qed 𝓛 (‵ (part_at R full_share w b o) ∷ ‵ (Rest m b o h rb ro) ∷ []) ∵ move ! (1 ∷ []) $ fsplit ! $ fsplit ! $ move ! (3 ∷ []) $
      box_in E ! (held (with_tree m w)) b o w at_b refl $ use1 𝓛 (‵ (Hd.own_val (with_tree m w) (word E h b o ∷ []))) (id⊢ 𝓤 _) $ move ! (1 ∷ 0 ∷ []) $ fjoin ! $
      fpack ! (List Val) (λ us. fsep (cell_at full_share Hd.mir us rb ro) (Hd.own_val (with_tree m w) us)) (word E h b o ∷ []) $ done !

pub tree_spec : {M : Type 1} → statement M
tree_spec 𝓤 𝓛 𝓜 𝓡 wired =
    let H = 𝓛.H in let 𝓣 = tables 𝓤 H 𝓜 𝓡 𝓡.env in let c = f.clauses 𝓛 𝓜.mem 𝓡.returns in let W = walk_of 𝓛 f.ended stayed c in
    proved 𝓛 f.ended stayed c 𝓜 𝓡 (Goes-spent_ref 𝓛 1 (0 ∷ []) tt (plain (λ _. Hd)), tt) f.Key.name code.function (code.unfolded 𝓤 H 𝓜 𝓡 wired)
    (λ κs. (mut_vals, tt)) (λ κs. (mut_Tells (named 0) κs.0 Hd, tt)) (λ κs qs bounds a g are.
    let κ = κs.0 in let q = qs.0 in let γ = a.0.ghost_name in let m = a.0.now in let rb = a.0.ref_ptr.0 in let ro = a.0.ref_ptr.1 in let vs = mut_vals a.0 in
    let y : W.Ghost = ((κs, qs, bounds, a, (vs, tt)), tt) in
    qed 𝓛 (((‵ (flft κ q) ⊛ ‵ ftrue) ⊛ ‵ ((MutRef (named 0) κ Hd).own_val a.0 vs) ⊛ ‵ ftrue) ∷ ‵ ftrue ∷ []) ∵
    split ! $ split ! $ move ! (2 ∷ []) $ split ! $ keep ! (0 ∷ 2 ∷ []) $
    enter ! _ _ _ _ _ $ alloc_all ! (λ l. pass_all ! refl ((tt, tt), tt) $ let En = env (code.function).locals l in
    fsplit3 ! $ move ! (1 ∷ 2 ∷ 3 ∷ []) $ opens ! tt Hd rb ro (λ us. move ! (1 ∷ []) $ use1 𝓛 (‵ ((B E).own_val (held m) us)) (id⊢ 𝓤 _) $
    box_out E ! (held m) us (λ b o h at_b ws fits. use1 𝓛 (‵ (part_at R full_share m.tree b o)) (id⊢ 𝓤 _) $
    move ! (1 ∷ 2 ∷ []) $ fjoin ! $ move ! (1 ∷ []) $ rewrite ! 2 (λ (xs : List Val). ‵ (cell_at full_share Hd.mir xs rb ro)) ws refl $
    -- [the tree; the right to free, with the allocator; the handle's cell; the open borrow, in
    -- three entries]
    first ! $ blocks ! $
    sets ! (of_opd ! (load ! (through ! refl (fld ! refl (stop !))) (look_in ! 2 (sub ! 0 refl (whole !))))) refl (tt, tt) $
    sets ! (of_opd ! (get ! refl)) refl (tt, tt) $
    sets_last ! (addr ! (through ! refl (stop !))) refl (tt, tt) $
    exec ! 𝓣.C 𝓣.Λ En (after 1 (code.function).body) (at_ret En (W.post y)) $
    sets ! (of_opd ! (get ! refl)) refl (tt, tt) $
    move ! (1 ∷ 2 ∷ []) $ fjoin ! $ move ! (2 ∷ 3 ∷ 4 ∷ 1 ∷ 0 ∷ []) $ group ! 5 $
    let rest = sem 𝓛 (Rest m b o h rb ro) in
    use1 𝓛 (later (some (λ (γ' : GName). raw (Part 𝓛 Hd R (with_tree m) (named 0) κ q rb ro b o γ rest (back 𝓛 m b o h rb ro at_b) m.tree γ'))))
    (lends_Part 𝓛 Hd R (with_tree m) (named 0) κ q rb ro b o γ rest (back 𝓛 m b o h rb ro at_b) (Hd.coded.code m) (Hd.coded.code m) m.tree) $ await ! tt $ pick ! (λ γ'.
    returns ! (look_at ! 0 refl) $ free_all ! refl $ keep ! (0 ∷ []) $
    let r : MutBor R.Denot = record { ref_ptr = (b, o); ghost_name = γ'; now = m.tree } in
    use1 𝓛 (‵ ((MutRef (named 0) κ R).own_val r (vptr b o ∷ [])) ⊛ ‵ (flft κ q) ⊛ ‵ (follows Hd R γ γ' (with_tree m))) (id⊢ 𝓤 _) $ split3 ! $
    suffices ! _ (ends_at 𝓛 f.ended stayed c y (vptr b o) r (tt, tt) (tt, tt)) $
    nothing ! $ nothing ! $ fjoin ! $ join ! $ nothing ! $ move ! (2 ∷ 0 ∷ []) $ join ! $ join ! $ frame ! $ says ! refl $ done !)))))
