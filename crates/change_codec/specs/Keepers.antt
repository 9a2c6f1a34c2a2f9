-- What a keeper promises, all at once.
use Rattle.std.specs.Prelude.{ℕ, Bool, Option}
use Rattle.change_codec.specs.Keeping.{Crashes, crashes}
use Rattle.change_codec.specs.declared.keeper.Keeper.{Ghosts as Keeper}

-- what crashes leave of it, how many bytes all that it keeps takes, when it failed when it was called last, when it keeps more than
-- it may, how much is to be gone over until that is shortened, when no more than a slice was gone over, when it was shortened,
-- whether it was refused room for more when it asked last, by which moment nobody else had begun, how it was tended, and until
-- which moment none is kept alone
pub record Keeping (K : Type 0) : Type 1 where
  pub crashes : Crashes K
  pub size : K → Option ℕ
  pub has_failed : K → Type 0
  pub is_long : K → Type 0
  pub to_go : K → ℕ
  pub slices : K → K → Type 0
  pub shortens : K → K → Type 0
  pub wants_room : K → Bool
  pub is_sole : K → ℕ → Type 0
  pub tends : K → ℕ → Option ℕ → K → Type 0
  pub kept_until : K → ℕ

abbrev pub keeping : {K : Type 0} → Keeper K → Keeping K
keeping keeper = record {
  crashes = crashes keeper.stands_for keeper.tells keeper.may_leave keeper.moment keeper.left_since;
  size = keeper.size_of;
  has_failed = keeper.has_failed;
  is_long = keeper.is_long;
  to_go = keeper.to_go;
  slices = keeper.slices;
  shortens = keeper.shortens;
  wants_room = keeper.wants_room;
  is_sole = keeper.is_sole;
  tends = keeper.tends;
  kept_until = keeper.kept_until;
}
