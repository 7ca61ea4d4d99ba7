-- Which names are fields, and of which kind (after the data format of IntelMQ 3).
use Rattle.std.specs.Prelude.{ℕ, List, [], ◌∷◌, ◌++◌, ◌&&◌, Bool, nat_le, nat_eq, length, map, drop, Option, Some, None, codes, if◌then◌else◌}
use Rattle.std.specs.Int.{is_in_range}
use Rattle.std.specs.Option.{option_or}
use Rattle.std.specs.List.{list_all, starts_with}
use Rattle.std.specs.Str.{bytes_eq, is_utf8}
use Rattle.field_types.specs.declared.kind.FieldType.{FieldType}
use Rattle.field_types.specs.declared.kind.FieldType.TheVariants as kind

-- the fields of the source
abbrev pub source_fields : List (List ℕ × FieldType)
source_fields =
    (codes "source.abuse_contact", kind.Lower) ∷
    (codes "source.account", kind.Text) ∷
    (codes "source.allocated", kind.DateTime) ∷
    (codes "source.as_name", kind.Text) ∷
    (codes "source.asn", kind.Asn) ∷
    (codes "source.domain_suffix", kind.Lower) ∷
    (codes "source.fqdn", kind.Fqdn) ∷
    (codes "source.geolocation.cc", kind.Cc) ∷
    (codes "source.geolocation.city", kind.Text) ∷
    (codes "source.geolocation.country", kind.Text) ∷
    (codes "source.geolocation.latitude", kind.Decimal) ∷
    (codes "source.geolocation.longitude", kind.Decimal) ∷
    (codes "source.geolocation.region", kind.Text) ∷
    (codes "source.geolocation.state", kind.Text) ∷
    (codes "source.ip", kind.Ip) ∷
    (codes "source.local_hostname", kind.Text) ∷
    (codes "source.local_ip", kind.Ip) ∷
    (codes "source.network", kind.Network) ∷
    (codes "source.port", kind.Port) ∷
    (codes "source.registry", kind.Registry) ∷
    (codes "source.reverse_dns", kind.Fqdn) ∷
    (codes "source.tor_node", kind.Flag) ∷
    (codes "source.url", kind.Url) ∷
    (codes "source.urlpath", kind.Text) ∷
    []

-- the same field of the destination
abbrev pub at_destination : List ℕ × FieldType → List ℕ × FieldType
at_destination row = (codes "destination." ++ drop (length (codes "source.")) row.0, row.1)

-- the fields that stand once
abbrev pub single_fields : List (List ℕ × FieldType)
single_fields =
    (codes "classification.identifier", kind.Text) ∷
    (codes "classification.taxonomy", kind.Taxonomy) ∷
    (codes "classification.type", kind.Class) ∷
    (codes "comment", kind.Text) ∷
    (codes "event_description.target", kind.Text) ∷
    (codes "event_description.text", kind.Text) ∷
    (codes "event_description.url", kind.Url) ∷
    (codes "event_hash", kind.Upper) ∷
    (codes "feed.accuracy", kind.Accuracy) ∷
    (codes "feed.code", kind.Text) ∷
    (codes "feed.documentation", kind.Text) ∷
    (codes "feed.name", kind.Text) ∷
    (codes "feed.provider", kind.Text) ∷
    (codes "feed.url", kind.Url) ∷
    (codes "malware.hash", kind.Lower) ∷
    (codes "malware.hash.md5", kind.Lower) ∷
    (codes "malware.hash.sha1", kind.Lower) ∷
    (codes "malware.hash.sha256", kind.Lower) ∷
    (codes "malware.name", kind.Lower) ∷
    (codes "malware.version", kind.Text) ∷
    (codes "misp.attribute_uuid", kind.Lower) ∷
    (codes "misp.event_uuid", kind.Lower) ∷
    (codes "output", kind.Text) ∷
    (codes "product.full_name", kind.Text) ∷
    (codes "product.name", kind.Text) ∷
    (codes "product.vendor", kind.Text) ∷
    (codes "product.version", kind.Text) ∷
    (codes "protocol.application", kind.Lower) ∷
    (codes "protocol.transport", kind.Lower) ∷
    (codes "raw", kind.Raw) ∷
    (codes "rtir_id", kind.Whole) ∷
    (codes "screenshot_url", kind.Url) ∷
    (codes "status", kind.Text) ∷
    (codes "time.observation", kind.DateTime) ∷
    (codes "time.source", kind.DateTime) ∷
    (codes "tlp", kind.Tlp) ∷
    []

-- the table of fields
unfoldable pub field_table : List (List ℕ × FieldType)
field_table = source_fields ++ map at_destination source_fields ++ single_fields

-- the kind in the row of that name
abbrev pub kind_in : List (List ℕ × FieldType) → List ℕ → Option FieldType
kind_in [] name = None
kind_in (row ∷ rows) name = if bytes_eq row.0 name then Some row.1 else kind_in rows name

-- what stands in front of the names of further data
abbrev pub extra_front : List ℕ
extra_front = codes "extra."

-- 1 to 200 bytes of UTF-8, none of them below 32
abbrev pub is_extra_part : List ℕ → Bool
is_extra_part name = is_in_range 1 200 (length name) && list_all (λ b. nat_le 32 b) name && is_utf8 name

-- the name of further data: such bytes behind `extra.`
abbrev pub is_extra_name : List ℕ → Bool
is_extra_name key = starts_with nat_eq key extra_front && is_extra_part (drop (length extra_front) key)

-- the kind of a field: that in its row of the table; a name of further data is of the kind Extra
unfoldable pub type_of : List ℕ → Option FieldType
type_of key = option_or (kind_in field_table key) (if is_extra_name key then Some kind.Extra else None)
