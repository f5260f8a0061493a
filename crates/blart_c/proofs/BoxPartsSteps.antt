-- What the proofs of a box's parts share.
use Rattle.std.proofs.Common.{◌≡◌, List, [], ◌∷◌, ◌++◌, sym, subst}
use seplogic.Ra.Ura.{Ura}
use mir.Val.{Val}
use base.Logic.{SProp, ent, id⊢}
use denote.RattleType.{RattleType}
use Rattle.std.proofs.BoxSteps.Form.{Bx, R, P}
use Rattle.blart_c.specs.contracts.box_parts.BoxParts as Parts

-- the parts of a box, as a row
abbrev pub PartsOf : Bx → RattleType
PartsOf E = Parts.the_row (R E) (P E) E.al.g

-- a run on a list of one value
pub on_word : {M : Type 1} (𝓤 : Ura M) (Run : List Val → SProp 𝓤) {vs : List Val} {w : Val} → vs ≡ w ∷ [] → ent 𝓤 (Run (w ∷ [])) (Run (vs ++ []))
on_word 𝓤 Run {w = w} is = subst (λ (us : List Val). ent 𝓤 (Run (w ∷ [])) (Run (us ++ []))) (sym is) (id⊢ 𝓤 (Run (w ∷ [])))
