-- What is known of a reader with its failures counted.
use Rattle.std.specs.Prelude.{ℕ}
use Rattle.mdp_capture.specs.declared.counted_read.CountingReader.{CountingReader}

-- the reader inside
abbrev pub reader_of : {R : Type 0} → CountingReader R → R
reader_of counting = counting.inner

-- how many reads failed
abbrev pub failures_of : {R : Type 0} → CountingReader R → ℕ
failures_of counting = counting.failures

-- how many reads are left
abbrev pub reads_left : {R : Type 0} → CountingReader R → ℕ
reads_left counting = counting.left
