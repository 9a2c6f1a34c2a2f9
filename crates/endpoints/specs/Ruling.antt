-- What the operator's requests come to.
use Rattle.std.specs.Prelude.{List, [], ◌∷◌, Contains}
use Rattle.endpoints.specs.Names.{Hosting, Checked}
use Rattle.consent.specs.declared.change.Change.{Change}
use Rattle.consent.specs.declared.change.Change.TheVariants.{HookSet, HookGone}
use Rattle.endpoints.specs.Layouts.{layout_of}
use Rattle.endpoints.specs.declared.ruling.Checked.TheVariants.{NoHook, Installs, Removes}

-- the host can make the change of its hooks: the hook was checked, or it is there
abbrev pub CanMake : {H : Type 0} → Hosting H → H → Change → Checked H → Type 0
CanMake hosting host (HookSet name version code) (Installs hook) = hosting.accepts host name.now (layout_of version) code.now hook
CanMake hosting host (HookSet name version code) _ = ⊥
CanMake hosting host (HookGone name) Removes = Contains (hosting.names host) name.now
CanMake hosting host (HookGone name) _ = ⊥
CanMake hosting host _ checked = Unit {0}

-- the one change of a request, where it is the hooks'
abbrev pub CanMakeAll : {H : Type 0} → Hosting H → H → List Change → Checked H → Type 0
CanMakeAll hosting host [] checked = Unit {0}
CanMakeAll hosting host (change ∷ []) checked = CanMake hosting host change checked
CanMakeAll hosting host (_ ∷ _ ∷ _) checked = Unit {0}

-- so it is wherever the host found something
abbrev pub CanTake : {H : Type 0} → Hosting H → H → List Change → Checked H → Type 0
CanTake hosting host changes NoHook = Unit {0}
CanTake hosting host changes (Installs hook) = CanMakeAll hosting host changes (Installs hook)
CanTake hosting host changes Removes = CanMakeAll hosting host changes Removes
