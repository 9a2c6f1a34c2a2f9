-- Lives behind others.
use Rattle.std.proofs.Common.{◌≡◌, ◌+◌, ℕ, None, Ok, arith, subst, sym}
use Rattle.std.specs.Global.{Vec}
use Rattle.clients.specs.Registry.{registry_in}
use Rattle.desk.specs.declared.candidate.Candidate.{Candidate}
use Rattle.daemon.specs.declared.starting.Pace.{Pace}
use Rattle.outside.specs.declared.journal.Journal.{Ghosts as Journal}
use Rattle.lifetime.specs.declared.life.LifeEnd.{LifeEnd}
use Rattle.daemon.specs.Onward.{Follows, LivesOnward, follows, is_last}
use Rattle.daemon.specs.Reliving.{AreOf, LivesAs, Relives}
use Rattle.daemon.specs.Starts.{MachineLife, Opens}
use Rattle.line_journal.specs.declared.line_journal.LineJournal.{LineJournal}
use Rattle.daemon.specs.declared.reliving.Estate.{Estate}
use Rattle.daemon.specs.declared.reliving.Relived.{Relived}
use Rattle.daemon.specs.declared.reloads.Heir.{Heir}
use Rattle.daemon.specs.declared.reloads.Heirs.{Heirs}
use Rattle.daemon.specs.declared.reloads.Reloads.{Reloads}

-- what reloads are made of a candidate are those of its registry
pub are_of : {R : Type 0} (candidate : Candidate) (made reloads : Reloads R) → reloads ≡ made → made.text ≡ candidate.text → made.key ≡ candidate.registry.operator → made.wanted ≡ None →
    AreOf candidate.registry reloads
are_of {R} candidate made reloads same text key none = subst (AreOf candidate.registry) (sym same) (record {
  key = key;
  said = subst (λ (t : Vec ℕ). registry_in t.items ≡ Ok candidate.registry) (sym text) candidate.said;
  unwanted = none;
})

module _ {R E D : Type 0} (disk : Opens D) (journal : Journal (LineJournal E)) (pace : Pace) where
  -- a life on what another one left
  pub on_left : (heir : Heir R) (one other : Estate E D) (life : MachineLife R E D) → one ≡ other → LivesAs disk journal pace heir one life →
      LivesAs disk journal pace heir other life
  on_left heir one other life = subst (λ (estate : Estate E D). LivesAs disk journal pace heir estate life)

  pub relives_on : (heirs : Heirs R) (one other : Estate E D) (Tells : LifeEnd → Type 0) (life : MachineLife R E D) → one ≡ other →
      Relives disk journal pace heirs one Tells life → Relives disk journal pace heirs other Tells life
  relives_on heirs one other Tells life = subst (λ (estate : Estate E D). Relives disk journal pace heirs estate Tells life)

  -- whatever row goes on from a life, goes on from the first one, by so many reloads more
  abbrev pub LeadsTo : (before : ℕ) (first one : Relived R E D) → Type 0
  LeadsTo before first one = (count : ℕ) (last : Relived R E D) → LivesOnward disk journal pace last count one → LivesOnward disk journal pace last (before + count) first

  -- none yet
  pub at_first : (first : Relived R E D) → LeadsTo 0 first first
  at_first first = λ count last onward.
      let same : count ≡ 0 + count = omega arith in
      subst (λ (n : ℕ). LivesOnward disk journal pace last n first) same onward

  -- one reload more
  pub one_more : (before : ℕ) (first one next : Relived R E D) → LeadsTo before first one → Follows disk journal pace one next → LeadsTo (before + 1) first next
  one_more before first one next ahead behind = λ count last onward.
      let same : before + (count + 1) ≡ before + 1 + count = omega arith in
      subst (λ (n : ℕ). LivesOnward disk journal pace last n first) same (ahead (count + 1) last (follows count one next behind onward))

  -- no more of them
  pub to_last : (before : ℕ) (first one last : Relived R E D) → LeadsTo before first one → last ≡ one → LivesOnward disk journal pace last before first
  to_last before first one last ahead same =
      let none : before + 0 ≡ before = omega arith in
      subst (λ (n : ℕ). LivesOnward disk journal pace last n first) none
      (ahead 0 last (subst (λ (r : Relived R E D). LivesOnward disk journal pace last 0 r) same is_last))
