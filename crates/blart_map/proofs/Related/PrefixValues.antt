-- The value to which a call of a prefix entry returns a mutable reference.
use Rattle.std.proofs.Common.{◌≡◌, ℕ, Option, Some, option_map, refl, sym, ap, ◌∙◌, subst}
use Rattle.std.specs.Option.{UnwrapsOrElse}
use Rattle.blart_keys.specs.declared.AsBytes.{Ghosts}
use Rattle.blart_map.specs.Entry as entry
use Rattle.blart_map.specs.Entry.{entry_value}
use Rattle.blart_map.specs.PrefixEntry.{Occupied, Vacant, Leaf, Inner, prefix_value, IsPrefixKeptOrMade}
use Rattle.blart_map.specs.declared.occupied.OccupiedEntry.{OccupiedEntry}
use Rattle.blart_map.specs.declared.prefix_entry.PrefixEntry.{PrefixEntry}

some_value : {K V : Type 0} (k : K) (w r : V) (o : Option (K × V)) → o ≡ Some (k, w) → option_map (λ p. p.1) o ≡ Some r → r ≡ w
some_value k w r o e f = let h : Some w ≡ Some r = sym (ap (option_map (λ p. p.1)) e) ∙ f in cc

pub or_made : {V : Type 0} (o : Option V) (r : V) (P : V → Type 0) → o ≡ Some r → UnwrapsOrElse o P r
or_made o r P e = subst (λ o. UnwrapsOrElse o P r) (sym e) refl

module _ {K V T : Type 0} {P : ℕ} {g : Ghosts K} where
  -- the returned value is the stored one, or else one with `Made`
  pub made_value : (e : PrefixEntry K V P T g) (Made : V → Type 0) (r : V) (o : OccupiedEntry K V P T g) → IsPrefixKeptOrMade e Made o → entry_value (entry.Occupied o) ≡ Some r → UnwrapsOrElse (prefix_value e) Made r
  made_value (Occupied (Leaf p)) Made r o h f = or_made (prefix_value (Occupied (Leaf p))) r Made (ap (λ o. entry_value (entry.Occupied o)) (sym h) ∙ f)
  made_value (Occupied (Inner e)) Made r o h f = subst Made (sym (some_value e.key h.0 r _ h.2.pair f)) h.1
  made_value (Vacant e) Made r o h f = subst Made (sym (some_value e.key h.0 r _ h.2.pair f)) h.1
