-- How requests are spelled: as tokens of JSON (RFC 8259), printed without a blank.
use Rattle.std.specs.Prelude.{ℕ, List, [], ◌∷◌, ◌++◌, codes, decimal, flat_map, map}
use Rattle.base64.specs.Engines.{standard}
use Rattle.base64.specs.GeneralPurpose.{encode_of}
use Rattle.json.specs.Print.{print}
use Rattle.json.specs.Token.{Token, begin_array, begin_object, end_array, end_object, key, string}
use Rattle.etcd_json.specs.declared.request.Compare.{Compare}
use Rattle.etcd_json.specs.declared.request.Operation.{Operation}
use Rattle.etcd_json.specs.declared.request.Operation.TheVariants.{Delete, Get, Past, Put, PutLeased, Range}
use Rattle.etcd_json.specs.declared.request.Target.{Target}
use Rattle.etcd_json.specs.declared.request.Target.TheVariants.{Created, Written}
use Rattle.etcd_json.specs.declared.request.Transaction.{Transaction}

-- MEMBERS

abbrev pub text_member : List ℕ → List ℕ → List Token
text_member name text = key name ∷ string text ∷ []

-- a number, as its digits in quotes
abbrev pub number_member : List ℕ → ℕ → List Token
number_member name n = text_member name (decimal n)

-- bytes, in base64
abbrev pub bytes_member : List ℕ → List ℕ → List Token
bytes_member name bytes = text_member name (encode_of standard bytes)

abbrev pub braced : List Token → List Token
braced members = begin_object ∷ members ++ end_object ∷ []

-- a member that is a list
abbrev pub list_member : List ℕ → List Token → List Token
list_member name items = key name ∷ begin_array ∷ items ++ end_array ∷ []

-- TRANSACTIONS, without where they lie in memory

-- that of a key it is this revision
pub record CompareFact : Type 0 where
  pub key : List ℕ
  pub target : Target
  pub revision : ℕ

abbrev pub compare_fact : Compare → CompareFact
compare_fact c = record { key = c.key.now; target = c.target; revision = c.revision }

-- what is done or told
pub data OperationFact : Type 0 where
  PutAt : (name value : List ℕ) → OperationFact
  PutLeasedAt : (name value : List ℕ) → (lease : ℕ) → OperationFact
  DeleteIn : (from to : List ℕ) → OperationFact
  GetAt : (name : List ℕ) → OperationFact
  RangeIn : (from to : List ℕ) → (most : ℕ) → OperationFact
  PastIn : (from to : List ℕ) → (most revision : ℕ) → OperationFact

abbrev pub operation_fact : Operation → OperationFact
operation_fact (Put name value) = PutAt name.now value.now
operation_fact (PutLeased name value lease) = PutLeasedAt name.now value.now lease
operation_fact (Delete from to) = DeleteIn from.now to.now
operation_fact (Get name) = GetAt name.now
operation_fact (Range from to most) = RangeIn from.now to.now most
operation_fact (Past from to most revision) = PastIn from.now to.now most revision

pub record TransactionFact : Type 0 where
  pub compares : List CompareFact
  pub success : List OperationFact
  pub failure : List OperationFact

abbrev pub transaction_fact : Transaction → TransactionFact
transaction_fact t = record {
  compares = map compare_fact t.compares.now;
  success = map operation_fact t.success.now;
  failure = map operation_fact t.failure.now;
}

-- HOW THEY ARE SPELLED

abbrev pub target_name : Target → List ℕ
target_name Created = codes "CREATE"
target_name Written = codes "MOD"

abbrev pub revision_name : Target → List ℕ
revision_name Created = codes "create_revision"
revision_name Written = codes "mod_revision"

abbrev pub compare_members : CompareFact → List Token
compare_members c =
    bytes_member (codes "key") c.key
    ++ (text_member (codes "target") (target_name c.target)
    ++ (text_member (codes "result") (codes "EQUAL")
    ++ number_member (revision_name c.target) c.revision))

abbrev pub compare_tokens : CompareFact → List Token
compare_tokens c = braced (compare_members c)

-- the keys from the one on, up to the other
abbrev pub bounds : List ℕ → List ℕ → List Token
bounds from to = bytes_member (codes "key") from ++ bytes_member (codes "range_end") to

abbrev pub put_members : List ℕ → List ℕ → List Token
put_members name value = bytes_member (codes "key") name ++ bytes_member (codes "value") value

-- what an operation is called
abbrev pub operation_name : OperationFact → List ℕ
operation_name (PutAt name value) = codes "request_put"
operation_name (PutLeasedAt name value lease) = codes "request_put"
operation_name (DeleteIn from to) = codes "request_delete_range"
operation_name (GetAt name) = codes "request_range"
operation_name (RangeIn from to most) = codes "request_range"
operation_name (PastIn from to most revision) = codes "request_range"

abbrev pub operation_members : OperationFact → List Token
operation_members (PutAt name value) = put_members name value
operation_members (PutLeasedAt name value lease) = put_members name value ++ number_member (codes "lease") lease
operation_members (DeleteIn from to) = bounds from to
operation_members (GetAt name) = bytes_member (codes "key") name
operation_members (RangeIn from to most) = bounds from to ++ number_member (codes "limit") most
operation_members (PastIn from to most revision) = bounds from to ++ (number_member (codes "limit") most ++ number_member (codes "revision") revision)

abbrev pub operation_tokens : OperationFact → List Token
operation_tokens operation = braced (key (operation_name operation) ∷ braced (operation_members operation))

abbrev pub transaction_members : TransactionFact → List Token
transaction_members t =
    list_member (codes "compare") (flat_map compare_tokens t.compares)
    ++ (list_member (codes "success") (flat_map operation_tokens t.success)
    ++ list_member (codes "failure") (flat_map operation_tokens t.failure))

-- WHAT IS SENT

abbrev pub transaction_text : TransactionFact → List ℕ
transaction_text t = print (braced (transaction_members t))

-- a lease of so many seconds
abbrev pub grant_text : ℕ → List ℕ
grant_text seconds = print (braced (number_member (codes "TTL") seconds))

-- the lease begins anew, or ends
abbrev pub lease_text : ℕ → List ℕ
lease_text lease = print (braced (number_member (codes "ID") lease))

-- what keys had before that revision is let go of
abbrev pub compaction_text : ℕ → List ℕ
compaction_text revision = print (braced (number_member (codes "revision") revision))

abbrev pub login_text : List ℕ → List ℕ → List ℕ
login_text name password = print (braced (text_member (codes "name") name ++ text_member (codes "password") password))
