-- Which addresses a network has.
use Rattle.std.specs.Prelude.{◌≡◌, ℕ, ◌/◌, ◌^◌}
use Rattle.std.specs.Net.Addr.{MatchIp, IsV4And, IsV6And, IsCanonicalOf, ipv4_bits, ipv6_bits}
use Rattle.std.specs.declared.net.ip_addr.IpAddr.{IpAddr}
use Rattle.smb_tcp.specs.declared.network.Network.{Network}

-- two numbers have the same bits but for the last ones, so many
abbrev pub SameBefore : ℕ → ℕ → ℕ → Type 0
SameBefore free a b = a / 2 ^ free ≡ b / 2 ^ free

-- the network has an address that is not IPv4-mapped: it is of the same version, and the bits of the prefix are the same
abbrev pub HasCanonical : Network → IpAddr → Type 0
HasCanonical network address =
    MatchIp address
    (λ a. IsV4And network.first (λ first. SameBefore network.free (ipv4_bits first) (ipv4_bits a)))
    (λ a. IsV6And network.first (λ first. SameBefore network.free (ipv6_bits first) (ipv6_bits a)))

-- the network has an address, which counts as the IPv4 address inside it where it is IPv4-mapped
abbrev pub Has : Network → IpAddr → Type 0
Has network address =
    MatchIp address
    (λ _. HasCanonical network address)
    (λ a. (c : IpAddr) → IsCanonicalOf a c → HasCanonical network c)
