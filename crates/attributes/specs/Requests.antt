-- What a request of EAP-AKA' asks, by its bytes (RFC 4187, RFC 5448). Assumes nothing.
use Rattle.std.specs.Prelude.{ℕ, ◌+◌, cond, ◌&&◌, List, [], ◌∷◌, ◌++◌, length, take, Some, None, Ok, Err, Option, Result, ◌==◌, nat_le, nat_lt, slice_index}
use Rattle.std.specs.Option.{option_map}
use Rattle.nas.specs.Outcomes.{then, raised}
use Rattle.nas.specs.Parts.{Field, field, cut, two_bytes}
use Rattle.nas.specs.Walk.{first}
use Rattle.attributes.specs.declared.attribute.IdentityKind.{IdentityKind}
use Rattle.attributes.specs.declared.attribute.Subtype.{Subtype}
use Rattle.attributes.specs.declared.attribute.Subtype.TheVariants.{Challenge as OfChallenge, Identity as OfIdentity}
use Rattle.attributes.specs.declared.fault.AttributeFault.{AttributeFault}
use Rattle.attributes.specs.declared.fault.AttributeFault.TheVariants.{Foreign, WrongLength, Surplus}
use Rattle.attributes.specs.declared.fault.RequestFault.{RequestFault}
use Rattle.attributes.specs.declared.fault.RequestFault.TheVariants.{WrongSubtype, InAttribute, Missing}
use Rattle.attributes.specs.declared.request.Challenge.{Challenge}
use Rattle.attributes.specs.declared.request.Found.{Found}
use Rattle.attributes.specs.declared.request.IdentityRequest.{IdentityRequest}
use Rattle.attributes.specs.declared.kdfs.Kdfs.{Kdfs}
use Rattle.attributes.specs.declared.request.Request.{Request}
use Rattle.attributes.specs.declared.request.Request.TheVariants.{Identity, Challenge as IsChallenge}
use Rattle.attributes.specs.declared.request.Sixteen.{Sixteen}
use Rattle.attributes.specs.Attributes.{Attr, rand, autn, mac, kdf_input, kdf, identity_request, skippable, other, field_of, attributes_from, foreign}

-- the values of the AT_KDFs, in their order, and the place of the first
pub record KdfList : Type 0 where
  pub place : ℕ
  pub values : List ℕ

abbrev pub kdf_list : Kdfs → KdfList
kdf_list k = record { place = k.at; values = take k.count k.values }

pub record ChallengeParts : Type 0 where
  pub rand : Sixteen
  pub autn : Sixteen
  pub mac : Sixteen
  pub network : Field
  pub kdfs : KdfList

pub data Asked : Type 0 where
  identity : IdentityRequest → Asked
  challenge : ChallengeParts → Asked

abbrev pub challenge_parts : Challenge → ChallengeParts
challenge_parts c = record { rand = c.rand; autn = c.autn; mac = c.mac; network = field c.network; kdfs = kdf_list c.kdfs }

abbrev pub asked : Request → Asked
asked (Identity i) = identity i
asked (IsChallenge c) = challenge (challenge_parts c)

-- the attributes found so far
pub record Gathered : Type 0 where
  pub rand : Option Sixteen
  pub autn : Option Sixteen
  pub mac : Option Sixteen
  pub network : Option Field
  pub kdfs : Option KdfList
  pub identity : Option IdentityRequest

abbrev pub gathered : Found → Gathered
gathered f = record { rand = f.rand; autn = f.autn; mac = f.mac; network = option_map field f.network; kdfs = option_map kdf_list f.kdfs; identity = f.identity }

abbrev pub nothing : Gathered
nothing = record { rand = None; autn = None; mac = None; network = None; kdfs = None; identity = None }

-- ---- each attribute in its right length

-- the value of the attribute at place p, if it has just n bytes
abbrev pub exactly : ℕ → ℕ → List ℕ → Result (List ℕ) AttributeFault
exactly n p v = cond (length v == n) (Ok v) (Err (WrongLength p))

-- AT_RAND, AT_AUTN and AT_MAC have five words: two reserved bytes, and sixteen
abbrev pub sixteen_of : Field → Result Sixteen AttributeFault
sixteen_of f =
    cond (length f.octets == 18)
    (Ok (record { at = f.place; bytes = cut f.octets 2 16 }))
    (Err (WrongLength f.place))

-- a name of n bytes behind its length, in just the words that it needs
abbrev pub name_of : ℕ → Field → Result Field AttributeFault
name_of n f =
    cond (nat_le (n + 2) (length f.octets) && nat_le (length f.octets) (n + 5))
    (Ok (record { place = f.place; octets = cut f.octets 2 n }))
    (Err (WrongLength f.place))

-- AT_KDF_INPUT has the name's length, two bytes, and the name
abbrev pub network_of : Field → Result Field AttributeFault
network_of f = name_of (two_bytes f.octets 0) f

-- AT_KDF has one word: the function's number
abbrev pub kdf_of : Field → Result ℕ AttributeFault
kdf_of f = cond (length f.octets == 2) (Ok (two_bytes f.octets 0)) (Err (WrongLength f.place))

-- AT_PERMANENT_ID_REQ, AT_ANY_ID_REQ and AT_FULLAUTH_ID_REQ have one word, two reserved bytes
abbrev pub identity_of : IdentityKind → Field → Result IdentityRequest AttributeFault
identity_of k f = cond (length f.octets == 2) (Ok (record { at = f.place; kind = k })) (Err (WrongLength f.place))

-- ---- no oftener than it may stand

-- once: a second one, at place p, is surplus
abbrev pub at_most_once : {X : Type 0} → Option X → ℕ → X → Result (Option X) AttributeFault
at_most_once None p x = Ok (Some x)
at_most_once (Some y) p x = Err (Surplus p)

-- AT_KDF may stand eight times
abbrev pub with_one_more : Option KdfList → ℕ → ℕ → Result (Option KdfList) AttributeFault
with_one_more None p v = Ok (Some (record { place = p; values = v ∷ [] }))
with_one_more (Some k) p v =
    cond (nat_lt (length k.values) 8)
    (Ok (Some (record { place = k.place; values = k.values ++ v ∷ [] })))
    (Err (Surplus p))

abbrev pub added : Gathered → Attr → Result Gathered AttributeFault
added g (rand f) =
    then (sixteen_of f) (λ x. then (at_most_once g.rand f.place x) (λ o.
    Ok (record { rand = o; autn = g.autn; mac = g.mac; network = g.network; kdfs = g.kdfs; identity = g.identity })))
added g (autn f) =
    then (sixteen_of f) (λ x. then (at_most_once g.autn f.place x) (λ o.
    Ok (record { rand = g.rand; autn = o; mac = g.mac; network = g.network; kdfs = g.kdfs; identity = g.identity })))
added g (mac f) =
    then (sixteen_of f) (λ x. then (at_most_once g.mac f.place x) (λ o.
    Ok (record { rand = g.rand; autn = g.autn; mac = o; network = g.network; kdfs = g.kdfs; identity = g.identity })))
added g (kdf_input f) =
    then (network_of f) (λ x. then (at_most_once g.network f.place x) (λ o.
    Ok (record { rand = g.rand; autn = g.autn; mac = g.mac; network = o; kdfs = g.kdfs; identity = g.identity })))
added g (kdf f) =
    then (kdf_of f) (λ v. then (with_one_more g.kdfs f.place v) (λ o.
    Ok (record { rand = g.rand; autn = g.autn; mac = g.mac; network = g.network; kdfs = o; identity = g.identity })))
added g (identity_request k f) =
    then (identity_of k f) (λ x. then (at_most_once g.identity f.place x) (λ o.
    Ok (record { rand = g.rand; autn = g.autn; mac = g.mac; network = g.network; kdfs = g.kdfs; identity = o })))
added g (skippable f) = Ok g
added g (other f) = Ok g

abbrev pub added_all : Gathered → List Attr → Result Gathered AttributeFault
added_all g [] = Ok g
added_all g (a ∷ rest) = then (added g a) (λ h. added_all h rest)

-- ---- the questions

-- question 23, of the first attribute that is foreign, if any
abbrev pub none_foreign : Option Attr → Result Gathered AttributeFault
none_foreign None = Ok nothing
none_foreign (Some a) = Err (Foreign (field_of a).place)

-- questions 22, that all attributes are whole, 23, and 24 but for what is missing
abbrev pub gathered_from : Subtype → Result (List Attr) AttributeFault → Result Gathered AttributeFault
gathered_from s all = then (first (foreign s) all) (λ o. then (none_foreign o) (λ g. then all (λ l. added_all g l)))

-- what is needed has to be there
abbrev pub needed : {X : Type 0} → Option X → Result X RequestFault
needed (Some x) = Ok x
needed None = Err Missing

abbrev pub needed_for_challenge : Gathered → Result ChallengeParts RequestFault
needed_for_challenge g =
    then (needed g.rand) (λ r.
    then (needed g.autn) (λ a.
    then (needed g.mac) (λ m.
    then (needed g.network) (λ n.
    then (needed g.kdfs) (λ k.
    Ok (record { rand = r; autn = a; mac = m; network = n; kdfs = k }))))))

abbrev pub needed_for : Subtype → Gathered → Result Asked RequestFault
needed_for OfIdentity g = then (needed g.identity) (λ i. Ok (identity i))
needed_for OfChallenge g = then (needed_for_challenge g) (λ c. Ok (challenge c))

-- byte 5: AKA-Challenge 1, AKA-Identity 5
abbrev pub subtype_of : ℕ → Option Subtype
subtype_of t = cond (t == 1) (Some OfChallenge) (cond (t == 5) (Some OfIdentity) None)

-- the attributes stand behind the header, the subtype and two reserved bytes
abbrev pub request_of_subtype : Option Subtype → List ℕ → Result Asked RequestFault
request_of_subtype (Some s) p = then (raised InAttribute (gathered_from s (attributes_from p 8))) (λ g. needed_for s g)
request_of_subtype None p = Err WrongSubtype

-- question 21; a packet's length takes two bytes, so none has more than 65,535 bytes
unfoldable pub read_request : List ℕ → Result Asked RequestFault
read_request p = cond (nat_le 8 (length p) && nat_le (length p) 65535) (request_of_subtype (subtype_of (slice_index p 5)) p) (Err WrongSubtype)
