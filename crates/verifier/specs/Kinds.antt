-- What an instruction leaves of what is known, and why it is refused: a table by the kinds of what is known before it.
-- Nothing is changed but what is said here.
use Rattle.std.specs.Prelude.{◌≡◌, ℕ, ◌/◌, ◌%◌, ◌==◌, ◌&&◌, if◌then◌else◌, Bool, true, false, length, slice_set, Option, Some, None, Result, Ok, Err}
use Rattle.verifier.specs.Names.{RegNo, R0, Insn, Operand, Reg, Mov, ◌>>=◌, Action, Operate, Convert, LoadWord, LoadFrom, StoreAt, Go, End, Layout, Width, W64, Number, WalkFault, ExitsWithPointer, PointerMisuse}
use Rattle.verifier.specs.Names.{ReadOnlyField, UnsetRegister, reg_number, size_bytes, action_of, Kind, IsKindImage, IsKindResult, IsKnownNumber, number_in_reg, Flow}
use Rattle.insn.specs.declared.action.Action.TheVariants.{Branch}
use Rattle.insn.specs.declared.operation.Cond.{Cond}
use Rattle.insn.specs.declared.operation.ExtendBits.{ExtendBits}
use Rattle.insn.specs.declared.operation.Size.{Size}
use Rattle.insn.specs.declared.operation.Size.TheVariants.{Eight}
use Rattle.insn.specs.declared.operation.UnOp.TheVariants.{Extend}
use Rattle.insn.specs.declared.state.Region.{Region}
use Rattle.insn.specs.declared.state.Region.TheVariants as region
use Rattle.reg_kind.specs.declared.place.Place.{Place}
use Rattle.reg_kind.specs.declared.reg.Reg.TheVariants as kind
use Rattle.reg_kind.specs.declared.span.Span.{Span}
use Rattle.reg_kind.specs.Accesses.{is_place_writable, place_behind}
use Rattle.stack_state.specs.Accesses.{IsGiven, IsNumberReg, IsStored}
use Rattle.verifier.specs.declared.known.Known.{Known}
use Rattle.verifier.specs.declared.known.Test.{Test}
use Rattle.verifier.specs.declared.known.Flow.TheVariants as flow
use Rattle.verifier.specs.Follows.{Follows, IsFaulty, IsOperand, comparison_of, reg_of}
use Rattle.links.specs.Links.{AreHomesLeft, AreLeft, AreMade, home_at, link_at, link_made, moved_by}
use Rattle.links.specs.declared.link.Links.{Links}
use Rattle.verifier.specs.Learnt.{IsNarrowed, IsSpreadByFirst}

-- ---- what a register receives

-- of the eleven registers one holds a value, its links are lost, and all else stays
pub record IsSet (dst : RegNo) (value : Kind) (old new : Known) : Type 0 where
  pub eleven : length old.registers ≡ 11
  pub registers : new.registers ≡ slice_set old.registers (reg_number dst) value
  pub stack : new.stack ≡ old.stack
  pub links : AreLeft dst old.links new.links

-- what is given goes to a register; where nothing is given, nothing is changed
abbrev pub Receives : RegNo → (Result Kind WalkFault → Type 0) → Known → Known → Result Flow WalkFault → Type 0
Receives dst IsMade old new (Ok flow.Next) = (value : Kind) × IsMade (Ok value) × IsSet dst value old new
Receives dst IsMade old new (Ok f) = ⊥
Receives dst IsMade old new (Err fault) = IsMade (Err fault) × (new ≡ old)

-- something is so of what is known of an operand
abbrev pub OfOperand : Known → Operand → (Kind → Type 0) → Type 0
OfOperand old operand IsSo = (value : Kind) × IsOperand old operand value × IsSo value

abbrev pub IsWide : ℕ → Result Kind WalkFault → Type 0
IsWide n (Ok value) = IsKnownNumber value (Some (Number n))
IsWide n (Err fault) = ⊥

-- what a load gives of a region: of the record a number, of the stack what is known there
abbrev pub GivenIn : Known → Size → Region → Span → Result Kind WalkFault → Type 0
GivenIn old size region.Record span (Ok value) = IsNumberReg size value
GivenIn old size region.Record span (Err fault) = ⊥
GivenIn old size region.Stack span r = IsGiven old.stack span size r

abbrev pub GivenAt : Known → Size → Result Place WalkFault → Result Kind WalkFault → Type 0
GivenAt old size (Err fault) r = r ≡ Err fault
GivenAt old size (Ok place) r = GivenIn old size place.region place.span r

-- a number that is loaded is extended, if bits are named
abbrev pub Extends : Option ExtendBits → Result Kind WalkFault → Result Kind WalkFault → Type 0
Extends None given r = r ≡ given
Extends (Some bits) (Err fault) r = r ≡ Err fault
Extends (Some bits) (Ok number) r = IsKindImage (Extend bits) W64 number r

abbrev pub Loads : Known → Size → Option ExtendBits → Result Place WalkFault → Result Kind WalkFault → Type 0
Loads old size extension place r = (given : Result Kind WalkFault) × GivenAt old size place given × Extends extension given r

-- ---- stores

-- the record holds numbers alone
abbrev pub kept_in_record : Kind → Result Unit WalkFault
kept_in_record (kind.Number a) = Ok tt
kept_in_record value = Err PointerMisuse

-- a value that is put at a place
pub record Put : Type 0 where
  pub size : Size
  pub place : Place
  pub value : Kind

-- what a store to the stack leaves of links: no home in the first block that it may touch
abbrev pub AreLinksStored : Span → Result Unit WalkFault → Links → Links → Type 0
AreLinksStored span (Ok done) old new = AreHomesLeft (span.least / 8) old new
AreLinksStored span (Err fault) old new = new ≡ old

abbrev pub StoredIn : Region → Put → Result Unit WalkFault → Known → Known → Type 0
StoredIn region.Record put r old new = (r ≡ kept_in_record put.value) × (new ≡ old)
StoredIn region.Stack put r old new =
    (new.registers ≡ old.registers) × IsStored put.place.span put.size put.value r old.stack new.stack × AreLinksStored put.place.span r old.links new.links

-- a store at bytes that may be written, or may not
abbrev pub StoredWhere : Bool → Put → Result Unit WalkFault → Known → Known → Type 0
StoredWhere false put r old new = (r ≡ Err ReadOnlyField) × (new ≡ old)
StoredWhere true put r old new = StoredIn put.place.region put r old new

abbrev pub StoredAt : Layout → Put → Result Unit WalkFault → Known → Known → Type 0
StoredAt layout put r old new = StoredWhere (is_place_writable layout put.place (size_bytes put.size)) put r old new

-- what is put where, if the value is set and there is a place
abbrev pub put_at : Size → Kind → Result Place WalkFault → Result Put WalkFault
put_at size kind.Unset place = Err UnsetRegister
put_at size value (Err fault) = Err fault
put_at size value (Ok place) = Ok (record { size = size; place = place; value = value })

abbrev pub StoredOf : Layout → Result Put WalkFault → Result Unit WalkFault → Known → Known → Type 0
StoredOf layout (Err fault) r old new = (r ≡ Err fault) × (new ≡ old)
StoredOf layout (Ok put) r old new = StoredAt layout put r old new

-- ---- flows

-- a flow that follows where nothing is wrong
abbrev pub flow_where : {A : Type 0} → Result A WalkFault → Flow → Result Flow WalkFault
flow_where (Ok a) f = Ok f
flow_where (Err fault) f = Err fault

-- what a conditional jump tests
abbrev pub test_of : Width → Cond → RegNo → Operand → Test
test_of w cond left right = record { cond = cond; width = w; left = left; right = right }

abbrev pub Stores : Layout → Result Put WalkFault → Known → Known → Result Flow WalkFault → Type 0
Stores layout put old new r = (done : Result Unit WalkFault) × StoredOf layout put done old new × (r ≡ flow_where done flow.Next)

-- nothing is changed
abbrev pub Passes : Result Flow WalkFault → Known → Known → Result Flow WalkFault → Type 0
Passes flow old new r = (r ≡ flow) × (new ≡ old)

-- ---- instructions

abbrev pub LeavesRow : Layout → Action → Known → Known → Result Flow WalkFault → Type 0
LeavesRow layout (Operate w op dst operand) old new r =
    Receives dst (λ given. OfOperand old operand (λ right. IsKindResult layout w op (reg_of old dst) right given)) old new r
LeavesRow layout (Convert w op dst src) old new r = Receives dst (IsKindImage op w (reg_of old src)) old new r
LeavesRow layout (LoadWord dst n) old new r = Receives dst (IsWide n) old new r
LeavesRow layout (LoadFrom size extension dst src offset) old new r =
    Receives dst (Loads old size extension (place_behind layout (reg_of old src) offset (size_bytes size))) old new r
LeavesRow layout (StoreAt size dst offset operand) old new r =
    OfOperand old operand (λ value. Stores layout (put_at size value (place_behind layout (reg_of old dst) offset (size_bytes size))) old new r)
LeavesRow layout (Go offset) old new r = Passes (Ok (flow.Jump offset)) old new r
LeavesRow layout (Branch w cond dst operand offset) old new r =
    OfOperand old operand (λ right. Passes (flow_where (comparison_of (reg_of old dst) right) (flow.Branch offset (test_of w cond dst operand))) old new r)
LeavesRow layout End old new r = Passes (flow_where (number_in_reg (reg_of old R0) ExitsWithPointer) flow.Exit) old new r

-- the block of eight bytes at one certain place of the stack, where they are one
abbrev pub block_in : Region → Span → Option ℕ
block_in region.Record span = None
block_in region.Stack span = if span.least == span.greatest && span.least % 8 == 0 then Some (span.least / 8) else None

abbrev pub block_of_place : Result Place WalkFault → Option ℕ
block_of_place (Ok place) = block_in place.region place.span
block_of_place (Err fault) = None

-- a home is given to a register, if there is one
abbrev pub home_of : RegNo → Option ℕ → Option (RegNo × ℕ)
home_of register home = do
  b ← home
  Some (register, b)

-- the home that an instruction gives to a register: that of the one that is copied, and the block of eight bytes from which it is
-- loaded, or to which it is stored
abbrev pub home_made : Layout → Known → Action → Option (RegNo × ℕ)
home_made layout old (Operate W64 Mov dst (Reg src)) = home_of dst (home_at old.links (reg_number src))
home_made layout old (LoadFrom Eight None dst src offset) = home_of dst (block_of_place (place_behind layout (reg_of old src) offset 8))
home_made layout old (StoreAt Eight dst offset (Reg src)) = home_of src (block_of_place (place_behind layout (reg_of old dst) offset 8))
home_made layout old action = None

-- the link and the home that an instruction makes are there, and the links that it moves, and all else stays
pub record IsLinked (layout : Layout) (action : Action) (old between new : Known) : Type 0 where
  pub registers : new.registers ≡ between.registers
  pub stack : new.stack ≡ between.stack
  pub links : AreMade (link_made old.registers old.links action) (home_made layout old action) (λ k. moved_by action k (link_at old.links k)) between.links new.links

-- behind it what is known has spread by the first link that is moved, and of all states that were known it still is
pub record IsSpreadBehind (action : Action) (old linked new : Known) : Type 0 where
  pub narrowed : IsNarrowed linked new
  pub spread : IsSpreadByFirst (λ k. moved_by action k (link_at old.links k)) linked new

-- a row of the table, then the instruction's link, and then what spreads behind it
abbrev pub LeavesKnown : Layout → Insn → Known → Known → Result Flow WalkFault → Type 0
LeavesKnown layout i old new (Ok flow) =
    (between : Known) × LeavesRow layout (action_of i) old between (Ok flow)
    × ((linked : Known) × IsLinked layout (action_of i) old between linked × IsSpreadBehind (action_of i) old linked new)
LeavesKnown layout i old new (Err fault) = LeavesRow layout (action_of i) old new (Err fault)

-- ---- what rows come to

-- a row is sound: a flow is what follows the instruction, and a fault is the first test that fails in the one shape that is known
abbrev pub IsSoundRow : Layout → Insn → Known → Known → Result Flow WalkFault → Type 0
IsSoundRow layout i old new (Ok flow) = Follows layout i old new flow
IsSoundRow layout i old new (Err fault) = IsFaulty layout i old fault
