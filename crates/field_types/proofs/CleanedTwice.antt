-- To clean twice is to clean once.
use Rattle.std.proofs.Common.{◌≡◌, Some}
use Rattle.field_types.specs.Cleaning.{clean}
use Rattle.field_types.specs.declared.kind.FieldType.{FieldType}
use Rattle.field_types.specs.declared.kind.FieldType.TheVariants as kind
use Rattle.field_types.specs.declared.value.Value.{Value}
use Rattle.field_types.proofs.Twice.{text_twice, lower_twice, upper_twice, tlp_twice, registry_twice, class_twice, taxonomy_twice, raw_twice, accuracy_twice}
use Rattle.field_types.proofs.TwiceMore.{flag_twice, asn_twice, port_twice, whole_twice, decimal_twice, extra_twice, country_twice}
use Rattle.field_types.proofs.TwiceAddresses.{address_twice, network_twice}
use Rattle.field_types.proofs.TwiceTexts.{fqdn_twice, url_twice, time_twice}

pub cleaned_stays : (kind : FieldType) (u v : Value) → clean kind u ≡ Some v → clean kind v ≡ Some v
cleaned_stays kind.Text u v h = text_twice u v h
cleaned_stays kind.Lower u v h = lower_twice u v h
cleaned_stays kind.Upper u v h = upper_twice u v h
cleaned_stays kind.Cc u v h = country_twice u v h
cleaned_stays kind.Decimal u v h = decimal_twice u v h
cleaned_stays kind.Accuracy u v h = accuracy_twice u v h
cleaned_stays kind.Whole u v h = whole_twice u v h
cleaned_stays kind.Asn u v h = asn_twice u v h
cleaned_stays kind.Port u v h = port_twice u v h
cleaned_stays kind.Flag u v h = flag_twice u v h
cleaned_stays kind.Ip u v h = address_twice u v h
cleaned_stays kind.Network u v h = network_twice u v h
cleaned_stays kind.Fqdn u v h = fqdn_twice u v h
cleaned_stays kind.Url u v h = url_twice u v h
cleaned_stays kind.DateTime u v h = time_twice u v h
cleaned_stays kind.Raw u v h = raw_twice u v h
cleaned_stays kind.Tlp u v h = tlp_twice u v h
cleaned_stays kind.Registry u v h = registry_twice u v h
cleaned_stays kind.Class u v h = class_twice u v h
cleaned_stays kind.Taxonomy u v h = taxonomy_twice u v h
cleaned_stays kind.Extra u v h = extra_twice u v h
