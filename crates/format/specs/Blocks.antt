-- The lease records that there are, the block that each writes, and the record that a block is.
use Rattle.std.specs.Prelude.{◌≡◌, ◌≢◌, ℕ, ◌+◌, ◌*◌, ◌%◌, Bool, true, false, cond, ◌&&◌, ◌||◌, List, [], ◌∷◌, ◌++◌, take, drop, replicate, Ok, Err, Result, ◌==◌, nat_le, slice_index}
use Rattle.disk.specs.declared.fault.Refusal.{Refusal}
use Rattle.disk.specs.declared.fault.Refusal.TheVariants.{WrongLength, NotARecord}
use Rattle.disk.specs.Model.{block_length}
use Rattle.format.specs.declared.lease.Kind.{Kind}
use Rattle.format.specs.declared.lease.Kind.TheVariants.{Free, Owned}
use Rattle.format.specs.declared.lease.LeaseRecord.{LeaseRecord}
use Rattle.format.specs.Bytes.{bytes_of, number_of}

-- the number of each kind
abbrev pub kind_number : Kind → ℕ
kind_number Free = 0
kind_number Owned = 1

-- the kind of this number, or that no kind has it
abbrev pub ReadsKind : ℕ → Result Kind Refusal → Type 0
ReadsKind n (Ok kind) = n ≡ kind_number kind
ReadsKind n (Err refusal) = (refusal ≡ NotARecord) × ((kind : Kind) → n ≢ kind_number kind)

-- the record of a resource that nobody has claimed yet
abbrev pub founding : ℕ → LeaseRecord
founding resource = record { kind = Free; resource = resource; mark = record { owner = 0; generation = 0; stamp = 0 }; term = 0 }

abbrev pub in_range : LeaseRecord → Bool
in_range x =
    nat_le x.resource 7 && nat_le x.mark.owner 15 && nat_le x.mark.generation 65535 && nat_le x.mark.stamp 9999 && nat_le x.term 999999

-- written by a host, or by nobody
abbrev pub used : LeaseRecord → Bool
used x = nat_le 1 x.mark.generation && nat_le 1 x.mark.stamp && nat_le 1 x.term

abbrev pub unused : LeaseRecord → Bool
unused x = x.mark.owner == 0 && x.mark.generation == 0 && x.mark.stamp == 0 && x.term == 0

abbrev pub fits_kind : Kind → LeaseRecord → Bool
fits_kind Owned x = used x
fits_kind Free x = used x || unused x

-- the records that there are
abbrev pub valid : LeaseRecord → Bool
valid x = in_range x && fits_kind x.kind x

-- bytes 0 to 15: length, version, kind, resource, mark and term
abbrev pub front_of : LeaseRecord → List ℕ
front_of x =
    bytes_of 2 20
    ++ 1 ∷ kind_number x.kind ∷ x.resource ∷ x.mark.owner ∷ bytes_of 2 x.mark.generation ++ bytes_of 4 x.mark.stamp ++ bytes_of 4 x.term

-- s and t after the 16-bit words of these bytes, from s and t before
abbrev pub sums : List ℕ → ℕ → ℕ → ℕ × ℕ
sums [] s t = (s, t)
sums (a ∷ []) s t = (s, t)
sums (a ∷ b ∷ rest) s t = sums rest ((s + (a * 256 + b)) % 65535) ((t + (s + (a * 256 + b)) % 65535) % 65535)

-- bytes 16 to 19: t, then s
abbrev pub sum_bytes : ℕ × ℕ → List ℕ
sum_bytes p = bytes_of 2 p.1 ++ bytes_of 2 p.0

-- the block that a record writes
unfoldable pub block_of : LeaseRecord → List ℕ
block_of x = front_of x ++ sum_bytes (sums (front_of x) 0 0) ++ replicate 492 0

-- the bytes are the block of this record
abbrev pub Written : LeaseRecord → List ℕ → Type 0
Written x bytes = (valid x ≡ true) × (bytes ≡ block_of x)

abbrev pub encode_answer : ℕ → Result (Unit {0}) Refusal
encode_answer size = cond (size == block_length) (Ok tt) (Err WrongLength)

abbrev pub encoded_area : LeaseRecord → ℕ → List ℕ
encoded_area x size = cond (size == block_length) (block_of x) (replicate size 0)

abbrev pub same_bytes : List ℕ → List ℕ → Bool
same_bytes [] [] = true
same_bytes [] (y ∷ ys) = false
same_bytes (x ∷ xs) [] = false
same_bytes (x ∷ xs) (y ∷ ys) = x == y && same_bytes xs ys

-- k bytes from place i on
abbrev pub part : ℕ → ℕ → List ℕ → List ℕ
part i k bytes = take k (drop i bytes)

abbrev pub kind_of : ℕ → Kind
kind_of n = cond (n == 0) Free Owned

-- the record whose fields stand in these bytes
abbrev pub fields_of : List ℕ → LeaseRecord
fields_of bytes =
    record {
      kind = kind_of (slice_index bytes 3);
      resource = slice_index bytes 4;
      mark = record { owner = slice_index bytes 5; generation = number_of (part 6 2 bytes); stamp = number_of (part 8 4 bytes) };
      term = number_of (part 12 4 bytes);
    }

-- the record of a block: the one whose fields stand in it, if this is its block
unfoldable pub decoded : List ℕ → Result LeaseRecord Refusal
decoded bytes =
    cond (valid (fields_of bytes) && same_bytes bytes (block_of (fields_of bytes))) (Ok (fields_of bytes)) (Err NotARecord)
