-- The parts of what `boxed` returns: a loose box with the tree's handle, or nothing.
use Rattle.std.proofs.Common.{◌≡◌, ℕ, List, [], ◌∷◌, refl, ap, ◌∙◌, Ok, Err}
use mathlib.Core.List.{◌++◌}
use seplogic.Ra.Ura.{Ura}
use mir.Val.{Val, vstruct, vcons, vnil, of_list}
use base.Logic.{id⊢}
use types.Logic.{Logic}
use types.Kit.{Item, Goal, Seq, ‵, ◌$◌, move, drop, use1, fsplit, fpick, feq_l}
use types.Match.{live}
use denote.RattleType.{RattleType}
use denote.RawPtr.{block_ptr}
use denote.Steps.{only}
use denote.Memory.{part_at}
use base.Fraction.{full_share}
use mir.Raw.{raw as bare}
use Rattle.std.proofs.alloc.Calls.{token, Fits}
use Rattle.std.proofs.BoxSteps.Form.{B, D, R, τ, word, handle}
use Rattle.std.proofs.BoxSteps.Steps.{box_out}
use Rattle.std.specs.contracts.result.Result as RS
use Rattle.std.specs.contracts.alloc.AllocError as AE
use Rattle.std.specs.contracts.alloc.Global as Heap
use Rattle.std.specs.contracts.impls.GlobalAllocator.TheImpl.{ghosts}
use Rattle.blart_c.specs.contracts.handle.ArtMap as Handle
use Rattle.blart_c.specs.contracts.box_parts.BoxParts as parts
use Rattle.blart_c.proofs.AsBox.{EH}

abbrev pub Lo : RattleType
Lo = parts.the_row Handle.the_row Heap.the_row ghosts

abbrev pub Out : RattleType
Out = RS.the_row Lo AE.the_row

abbrev pub ok_word : Val → ℕ → ℕ → Val
ok_word h b o = live 0 (vcons (word EH h b o) vnil)

abbrev pub err_word : Val
err_word = live 1 (vcons (vstruct vnil) vnil)

module _ {M : Type 1} {𝓤 : Ura M} {𝓛 : Logic 𝓤} {K : Type 0} {Γ : List (Item 𝓤)} {G : Goal 𝓤 𝓛.H} where
  pub answer_out : K → (r : Out.Denot) (v : Val)
      → ((l : Lo.Denot) (b o : ℕ) (h : Val) → r ≡ Ok l → l.ptr ≡ block_ptr b o → v ≡ ok_word h b o → Fits EH.al h
      → Seq K 𝓛 (‵ (part_at (R EH) full_share l.value b o) ∷ ‵ (token EH.al l.alloc (bare (τ EH)) (block_ptr b o)) ∷ ‵ (handle EH l.alloc h) ∷ Γ) G)
      → ((x : AE.the_row.Denot) → r ≡ Err x → v ≡ err_word → Seq K 𝓛 Γ G)
      → Seq K 𝓛 (‵ (Out.own_val r (v ∷ [])) ∷ Γ) G
  answer_out t (Ok l) v ok err =
      let held : D EH = record { ptr = l.ptr; alloc = l.alloc; value = l.value } in
      fpick t (λ ps. fsplit t $ feq_l t (λ eu. fpick t (λ vss. fsplit t $ feq_l t (λ ep. fsplit t $ use1 𝓛 (‵ ((B EH).own_val held vss.0)) (id⊢ 𝓤 _) $
      box_out EH t held vss.0 (λ b o h e ws fits. move t (3 ∷ []) $ drop t $
      ok l b o h refl e (ap only (eu ∙ (λ i. live 0 (of_list ((ep ∙ (λ j. ws j ++ [])) i)) ∷ []))) fits)))))
  answer_out t (Err x) v ok err =
      fpick t (λ ps. fsplit t $ feq_l t (λ eu. fpick t (λ vss. fsplit t $ feq_l t (λ ep. fsplit t $ fpick t (λ _. fsplit t $ feq_l t (λ ws. drop t $ drop t $
      err x refl (ap only (eu ∙ (λ i. live 1 (of_list ((ep ∙ (λ j. ws j ++ [])) i)) ∷ [])))))))))
