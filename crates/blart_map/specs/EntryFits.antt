-- That an entry fits in memory. A function that is generic over the key type has to be told.
use Rattle.std.specs.Prelude.{[]}
use Rattle.std.specs.Borrow.{RattleType}
use Rattle.std.specs.Mem.{FitsInMemory}
use mir.Syntax.{named}
use Rattle.blart_keys.specs.declared.AsBytes.{Ghosts}
use Rattle.blart_map.specs.contracts.map.TreeMap as tree_map
use Rattle.blart_map.specs.contracts.entry.Entry as entry
use Rattle.blart_map.specs.contracts.prefix_entry.PrefixEntry as prefix_entry
use Rattle.blart_map.specs.contracts.prefix_kind.PrefixKind as prefix_kind

module _ (K V P : RattleType) (g : Ghosts K.Denot) where
  -- an entry of a map of this type takes fewer than 2 ^ 63 bytes
  abbrev pub EntryFits : Type 0
  EntryFits = FitsInMemory (entry.the_row (record { mir = named 1; lft = [] }) K V P (tree_map.the_row K V P g) g)

  -- so do a prefix entry and its kind
  abbrev pub PrefixEntryFits : Type 0
  PrefixEntryFits = FitsInMemory (prefix_entry.the_row (record { mir = named 1; lft = [] }) K V P (tree_map.the_row K V P g) g)
      × FitsInMemory (prefix_kind.the_row (record { mir = named 1; lft = [] }) K V P (tree_map.the_row K V P g) g)
