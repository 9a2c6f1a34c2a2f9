-- Hooks that were checked and are to be taken.
use Rattle.std.specs.Prelude.{ℕ, List}
use Rattle.insn.specs.declared.layout.Layout.{Layout}

module _ {H : Type 0} (accepts : H → List ℕ → Layout → List ℕ → H → Type 0) (host checked : H) where
  -- the host accepts some hook, and this is what it gave for it
  abbrev pub WasChecked : Type 0
  WasChecked = (name : List ℕ) × (layout : Layout) × (code : List ℕ) × accepts host name layout code checked

  -- it holds of whatever hook the host gave this for
  abbrev pub Takes : (List ℕ → Layout → List ℕ → Type 0) → Type 0
  Takes claim = (name : List ℕ) (layout : Layout) (code : List ℕ) → accepts host name layout code checked → claim name layout code
