-- The seats, and who gets one.
use Rattle.std.specs.Prelude.{ℕ, Bool, false, List, Option, Some, None, if◌then◌else◌, nat_le, nat_lt, ◌&&◌}
use Rattle.std.specs.List.{count_by}
use Rattle.std.specs.Str.{bytes_eq}
use Rattle.std.specs.Net.Addr.{ipv4_octets, ipv6_segments}
use Rattle.std.specs.Net.Socket.{socket_ip}
use Rattle.std.specs.declared.net.ip_addr.IpAddr.{IpAddr}
use Rattle.std.specs.declared.net.ip_addr.IpAddr.TheVariants.{V4, V6}
use Rattle.std.specs.declared.net.socket_addr.SocketAddr.{SocketAddr}
use Rattle.server_front.specs.declared.seats.NoSeat.{NoSeat}
use Rattle.server_front.specs.declared.seats.NoSeat.TheVariants.{Full, AddressFull}
use Rattle.server_front.specs.declared.seats.Peer.{Peer}
use Rattle.server_front.specs.declared.seats.Seats.{Seats}

-- The number of the seats, which does not change.
abbrev pub count_of : Seats → ℕ
count_of seats = seats.count

-- The most seats of one address, which does not change; no limit is 0.
abbrev pub limit_of : Seats → ℕ
limit_of seats = seats.most

-- Why a further peer gets no seat, where `taken` of the seats are taken, `held` of them by peers of
-- its address, which may have `most`; no limit is 0.
abbrev pub refusal_of : ℕ → ℕ → ℕ → ℕ → Option NoSeat
refusal_of seats taken held most =
    if nat_le seats taken then Some Full
    else if nat_lt 0 most && nat_le most held then Some AddressFull
    else None

-- Both are the address of one host.
abbrev pub is_same_host : IpAddr → IpAddr → Bool
is_same_host (V4 one) (V4 other) = bytes_eq (ipv4_octets one) (ipv4_octets other)
is_same_host (V6 one) (V6 other) = bytes_eq (ipv6_segments one) (ipv6_segments other)
is_same_host _ _ = false

-- A seat has a peer of this address's host. The ports may differ.
abbrev pub has_host : SocketAddr → Option Peer → Bool
has_host address None = false
has_host address (Some peer) = is_same_host (socket_ip peer.address) (socket_ip address)

-- The number of the seats that peers of this address's host have.
abbrev pub held_by : List (Option Peer) → SocketAddr → ℕ
held_by seats address = count_by (has_host address) seats
