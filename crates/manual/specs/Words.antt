-- Which words the manual explains.
use Rattle.std.specs.Prelude.{ℕ, Bool, List, [], ◌∷◌, ◌++◌, codes, bytes_eq}
use Rattle.std.specs.List.{list_any}

-- those of the commands, which they begin with
unfoldable pub command_names : List (List ℕ)
command_names =
    codes "run" ∷ codes "ask" ∷ codes "ask2" ∷ codes "asm" ∷ codes "list" ∷ codes "check" ∷ codes "check2" ∷
    codes "start" ∷ codes "serve" ∷ codes "registry" ∷ codes "state" ∷ codes "replay" ∷ codes "help" ∷ []

-- a word is the name of a command
abbrev pub is_command : List ℕ → Bool
is_command name = list_any (λ word. bytes_eq name word) command_names

-- those of the commands; of the faults that a command has however its files are; of those of a state file that are told
-- with its path, and of those of a list in etcd; of those of the text of a hook, and of its code; of the verdicts on it; of
-- the faults of a registry, and of an event; and of those of a start and of a server that are told behind another one's name
unfoldable pub all_words : List (List ℕ)
all_words =
    command_names ++
    codes "bad arguments" ∷ codes "bad record" ∷ codes "cannot read" ∷ codes "ELF file" ∷ codes "not hex" ∷
    codes "cannot write" ∷ codes "bad line" ∷ codes "hook" ∷ codes "State" ∷ codes "audit" ∷ codes "cannot listen" ∷
    codes "no random bytes" ∷ codes "connection ended" ∷ codes "stopped" ∷ codes "out of memory" ∷
    codes "Missing" ∷ codes "NotState" ∷ codes "Version" ∷ codes "Damaged" ∷ codes "Device" ∷ codes "InUse" ∷
    codes "Open" ∷ codes "Link" ∷ codes "NotAFile" ∷ codes "SecondLink" ∷ codes "WritableByOthers" ∷ codes "ClockAhead" ∷
    codes "Exists" ∷ codes "Make" ∷
    codes "Overtaken" ∷ codes "Unclear" ∷ codes "OtherCluster" ∷ codes "Denied" ∷ codes "Led" ∷ codes "Unread" ∷
    codes "Unplaced" ∷ codes "NoMember" ∷ codes "Unresolved" ∷ codes "NoPassword" ∷ codes "NoSocket" ∷
    codes "UnknownWord" ∷ codes "BadOperand" ∷ codes "OutOfRange" ∷ codes "UnknownLabel" ∷ codes "DoubleLabel" ∷
    codes "TooLong" ∷ codes "NoInstruction" ∷
    codes "Empty" ∷ codes "BadLength" ∷ codes "UnknownOpcode" ∷ codes "BadRegister" ∷ codes "NonzeroField" ∷
    codes "TruncatedWide" ∷ codes "Atomic" ∷ codes "Call" ∷ codes "LegacyLoad" ∷
    codes "JumpOut" ∷ codes "JumpBack" ∷ codes "JumpIntoWide" ∷ codes "WritesR10" ∷ codes "FallsOff" ∷
    codes "UnsetRegister" ∷ codes "UnsetByte" ∷ codes "OutOfRegion" ∷ codes "ReadOnlyField" ∷ codes "PointerMisuse" ∷
    codes "ExitsWithPointer" ∷ codes "PointerRange" ∷
    codes "NotJson" ∷ codes "BadShape" ∷ codes "BadScope" ∷ codes "BadRedirect" ∷ codes "Twice" ∷
    codes "TooMany" ∷ codes "NotOpen" ∷ codes "AlreadyOpen" ∷ codes "PieceTooLong" ∷ codes "DrawsShort" ∷
    codes "TooManyRequests" ∷
    codes "NoRules" ∷ codes "Spelling" ∷ codes "Follows" ∷ codes "MomentBack" ∷ codes "Unknown" ∷
    codes "DrawTaken" ∷ codes "NotRight" ∷ codes "ScopeMoved" ∷ codes "ClientMoved" ∷ codes "OwnerMoved" ∷
    codes "HookDiffers" ∷ codes "Hook" ∷ codes "Config" ∷ codes "Full" ∷ codes "BadName" ∷ codes "NameTaken" ∷
    codes "Insn" ∷ codes "Verify" ∷ codes "Wait" ∷ codes "Clock" ∷ codes "Rounds" ∷ codes "NoRoom" ∷
    codes "Displaced" ∷ codes "Accept" ∷ codes "Read" ∷ codes "Write" ∷ codes "Refused" ∷ []
