-- The configuration of a share.
use Rattle.std.specs.Prelude.{ℕ, ◌%◌, Bool, ◌&&◌, ◌==◌, not, nat_le, List, [], ◌∷◌, length, string_bytes}
use Rattle.std.specs.List.{list_all, list_any}
use Rattle.smb_wire.specs.declared.limits.share.Limits.{Limits}
use Rattle.smb_wire.specs.Limits.{default_limits}
use Rattle.smb_request.specs.declared.config.Config.{Config}

-- what a configuration says, and the limits that the share is under
pub record Settings : Type 0 where
  pub share : List ℕ
  pub label : List ℕ
  pub guid : List ℕ
  pub capacity : ℕ
  pub created : ℕ
  pub limits : Limits

abbrev pub settings_within : Limits → Config → Settings
settings_within limits config = record {
  share = string_bytes config.share;
  label = string_bytes config.label;
  guid = config.guid;
  capacity = config.capacity;
  created = config.created;
  limits = limits;
}

-- under the default limits
abbrev pub settings_of : Config → Settings
settings_of = settings_within default_limits

-- the rules of a configuration
abbrev pub is_lawful : Settings → Bool
is_lawful settings =
    -- the share's name has 1 to 80 characters, none of them " * / : < > ? \ |
    (nat_le 1 (length settings.share) && nat_le (length settings.share) 80
    && list_all (λ c. nat_le 0x21 c && nat_le c 0x7E
    && not (list_any (λ b. b == c) (34 ∷ 42 ∷ 47 ∷ 58 ∷ 60 ∷ 62 ∷ 63 ∷ 92 ∷ 124 ∷ []))) settings.share)
    -- the label has up to 32 printable characters
    && (nat_le (length settings.label) 32 && list_all (λ c. nat_le 0x20 c && nat_le c 0x7E) settings.label)
    -- the capacity is a multiple of 4,096, from 4,096 to what the limits let it be
    && (nat_le 4096 settings.capacity && nat_le settings.capacity settings.limits.capacity && (settings.capacity % 4096 == 0))
