-- The whole session of document 01, and sessions of frames at the edges, computed from the definition of the frame program. The outputs
-- are the document's and those of the second program (rust/second).
use mathlib.Core.List.{List, [], ◌∷◌}
use mathlib.Core.Path.{◌≡◌, refl}
use Prim.Native.Nat.{ℕ, zero, suc, ◌+◌}
use Prim.Native.Char.{code}
use Prim.Native.String as Text
use Prim.Native.String.{String}
use Rattle.kdb.specs.Pool.{good_length, good_header}
use Rattle.kdb.specs.Print.{sound}
use Rattle.kdb.specs.Calls.{outcome}
use Rattle.kdb.specs.Frames.{reply, output}
use Rattle.kdb.proofs.Rows.{pool_of, inf}

-- a text's characters as bytes
abbrev pub bytes : String → List ℕ
bytes Text.[] = []
bytes (Text.◌∷◌ c s) = code c ∷ bytes s

pub session : output (bytes "00020004\n01000000050000000700000009\n0400000000000000070000000500000007\n01000000050000000700000001\n020000000500000007\n030000000500000007\n0G\n")
    ≡ bytes "00\n00\n00000000010000000100000009\n07\n0000000009\n08\nFF\n"
unfolding output reply outcome good_length good_header sound
session = refl

-- a list before a format, an empty line, N of 1 and of 513, K of 5, a format; a placing in lower case; refused formats that keep the pool;
-- an odd number of digits, other characters, a part word, no word, a format of 3 and of 5 bytes, 05 and FF, 130 digits; a point of no
-- word; a last line without line feed
pub edges : output (bytes "04\n\n00010001\n00010201\n00050002\n00010002\n01000000ab0000000c\n00050002\n00010001\n03000000AB\n0\n0G\n03000000AB \n03000000\n01\n000100\n0001000200\n05\nff\n0200000000000000000000000000000000000000000000000000000000000000000000000000000000000000000000000000000000000000000000000000000000\n02\n04000000AB000000AB")
    ≡ bytes "01\n01\n01\n02\n00\n00\n02\n01\n000000000C00000001\nFF\nFF\nFF\nFF\nFF\nFF\nFF\nFF\nFF\nFF\n03\n0000000001000000010000000C\n"
unfolding output reply outcome good_length good_header sound
edges = refl

-- the characters before and after each range of digits are none; the first and the last of each are
pub digits : output (bytes "00010002\n030000000/\n030000000:\n030000000@\n030000000G\n030000000`\n030000000g\n030000000 \n0300000000\n0300000009\n030000000A\n030000000F\n030000000a\n030000000f\n")
    ≡ bytes "00\nFF\nFF\nFF\nFF\nFF\nFF\nFF\n08\n08\n08\n08\n08\n08\n"
unfolding output reply outcome good_length good_header sound
digits = refl

-- an odd number of digits in a frame, and part words of one, two and three bytes
pub parts : output (bytes "00010002\n03000000000\n0300000000FF\n0300000000FFFF\n0300000000FFFFFF\n030000\n0300\n03\n02\n04\n01\n0100000005\n")
    ≡ bytes "00\nFF\nFF\nFF\nFF\nFF\nFF\n03\n03\n03\nFF\n03\n"
unfolding output reply outcome good_length good_header sound
parts = refl

-- 122 digits are a frame, 130 are none; a placing of 15 words
pub long : output (bytes "00010002\n02000000000000000000000000000000000000000000000000000000000000000000000000000000000000000000000000000000000000000000000000\n0200000000000000000000000000000000000000000000000000000000000000000000000000000000000000000000000000000000000000000000000000000000\n01000000000000000000000000000000000000000000000000000000000000000000000000000000000000000000000000000000000000000000000000\n")
    ≡ bytes "00\n03\nFF\n03\n"
unfolding output reply outcome good_length good_header sound
long = refl

-- the high byte of N comes first; lines without a character
pub pages : output (bytes "\n\n00010102\n0300000000\n\n00020100\n030000000000000000\n\n")
    ≡ bytes "00\n08\n00\n08\n"
unfolding output reply outcome good_length good_header sound
pages = refl

-- the last word of a placing is the location; remove, find and list after it
pub orders : output (bytes "00020004\n010000000A0000000B0000000C\n030000000A0000000B\n030000000B0000000A\n0400000000000000000000000F0000000F\n020000000A0000000B\n030000000A0000000B\n00040002\n0100000001000000020000000300000004000000FF\n0300000001000000020000000300000004\n")
    ≡ bytes "00\n00\n000000000C00000001\n08\n0000000001000000010000000C\n000000000C\n08\n00\n00\n00000000FF00000001\n"
unfolding output reply outcome good_length good_header sound
orders = refl

-- 70 records, keys 0 to 69, each with its key and 100 as location
abbrev pub pairs : ℕ → ℕ → List ℕ
pairs zero a = []
pairs (suc n) a = a ∷ (a + 100) ∷ pairs n (suc a)

abbrev pub seventy : List ℕ
seventy =
    pool_of ((1 ∷ 7 ∷ 6 ∷ 2 ∷ 70 ∷ [])
    ∷ (2 ∷ 14 ∷ 0 ∷ 0 ∷ pairs 14 0) ∷ (2 ∷ 14 ∷ 0 ∷ 0 ∷ pairs 14 14) ∷ (2 ∷ 14 ∷ 0 ∷ 0 ∷ pairs 14 28)
    ∷ (2 ∷ 14 ∷ 0 ∷ 0 ∷ pairs 14 42) ∷ (2 ∷ 14 ∷ 0 ∷ 0 ∷ pairs 14 56)
    ∷ (1 ∷ 5 ∷ 0 ∷ 0 ∷ 0 ∷ 14 ∷ 1 ∷ 14 ∷ 28 ∷ 2 ∷ 28 ∷ 42 ∷ 3 ∷ 42 ∷ 56 ∷ 4 ∷ 56 ∷ inf ∷ 5 ∷ []) ∷ [])

-- a list of more than 64 records is followed by the first 64 locations
pub sixty_four : (reply seventy (bytes "040000000000000063")).text
    ≡ bytes "0000000046000000060000006400000065000000660000006700000068000000690000006A0000006B0000006C0000006D0000006E0000006F000000700000007100000072000000730000007400000075000000760000007700000078000000790000007A0000007B0000007C0000007D0000007E0000007F000000800000008100000082000000830000008400000085000000860000008700000088000000890000008A0000008B0000008C0000008D0000008E0000008F000000900000009100000092000000930000009400000095000000960000009700000098000000990000009A0000009B0000009C0000009D0000009E0000009F000000A0000000A1000000A2000000A3\n"
unfolding reply outcome good_length good_header sound
sixty_four = refl
