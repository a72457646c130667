-- What commands change.
use Rattle.std.specs.Prelude.{ℕ, Bool, false, if◌then◌else◌, List, [], Option, None, Some, Result, Ok, Err}
use Rattle.texml_token.specs.Token.{Token}
use Rattle.texml_token.specs.declared.fault_code.TheConstants.{GROUP_MISMATCH, NO_GROUP}
use Rattle.texml_scope.specs.declared.values.FaultOf.TheVariants.{NoGroup, WrongGroup}
use Rattle.texml_scope.specs.Groups.{EndFault, set_local, set_global, begin_group, keep_after, end_group}
use Rattle.texml_scope.specs.Texts.{Key, Kind, Meaning, Value, World, key_eq, kind_eq}
use Rattle.texml_scope.specs.declared.values.ValueOf.TheVariants.{Means}
use Rattle.texml_expand.specs.State.{State, Reading, fail, change}
use Rattle.texml_expand.specs.Expand.{back, put}

-- a key gets a value: in the innermost group, or in all groups and outside them
abbrev pub set : Bool → Key → Value → State → State
set global k v s = record s { world = if global then set_global key_eq k v s.world else set_local key_eq k v s.world }

-- a name or an active character gets a meaning
abbrev pub assign : Bool → Key → Meaning → State → State
assign global k m = set global k (Means m)

-- a group begins
abbrev pub begin_kind : Kind → Reading (Unit {0})
begin_kind kind = change (λ s. record s { world = begin_group kind s.world })

-- the fault of a group that can't end: there is none, or it is of another kind
abbrev pub end_code : {G : Type 0} → EndFault G → ℕ
end_code NoGroup = NO_GROUP
end_code (WrongGroup kind) = GROUP_MISMATCH

-- the world behind the end of a group, whose after-tokens are read next; or why it can't end
abbrev pub ended : World × Result (List Token) (EndFault Kind) → Reading (Unit {0})
ended (w, Ok after) = change (λ s. put after (record s { world = w }))
ended (w, Err fault) = fail (end_code fault) []

-- a group of this kind ends
abbrev pub end_kind : Kind → Reading (Unit {0})
end_kind kind s = ended (end_group kind_eq kind s.world) s

-- a token is read after the innermost group
abbrev pub read_after : Token → State → State
read_after t s = record s { world = keep_after t s.world }

-- a token is read after the next assignment, in place of the one that was kept before
abbrev pub keep : Option Token → State → State
keep t s = record s { kept = t }

abbrev pub keep_token : Token → State → State
keep_token t = keep (Some t)

-- the kept token, if there is one, comes next
abbrev pub put_kept_of : Option Token → State → State
put_kept_of None s = s
put_kept_of (Some t) s = back t false (keep None s)

abbrev pub put_kept : State → State
put_kept s = put_kept_of s.kept s
