-- The names of values, their texts, and what is refused under them.
use Rattle.std.specs.Prelude.{ℕ, ◌==◌, if◌then◌else◌, List, [], ◌++◌, Result, Ok, Err, codes}
use Rattle.std.specs.Fmt.{decimal}
use Rattle.rb_result.specs.Steps.{told_as}
use Rattle.rb_num.specs.Interval.{Interval}
use Rattle.rb_num.specs.Refusing.{has_zero}
use Rattle.rb_num.specs.declared.interval.NumFault.{NumFault}
use Rattle.rb_work.specs.declared.names.NameKind.{NameKind}
use Rattle.rb_work.specs.declared.names.NameKind.TheVariants as K
use Rattle.rb_work.specs.declared.names.Name.{Name}
use Rattle.rb_work.specs.declared.names.RowFault.{RowFault}
use Rattle.rb_work.specs.declared.names.RowFault.TheVariants.{Size, Pivot}

-- as it is printed
abbrev pub word_of : NameKind → List ℕ
word_of K.q = codes "q"
word_of K.X = codes "X"
word_of K.s = codes "s"
word_of K.v = codes "v"
word_of K.c = codes "c"
word_of K.a = codes "a"
word_of K.b = codes "b"
word_of K.f = codes "f"
word_of K.t = codes "t"
word_of K.T = codes "T"
word_of K.I = codes "I"
word_of K.H = codes "H"
word_of K.M = codes "M"
word_of K.D = codes "D"
word_of K.L = codes "L"
word_of K.w = codes "w"
word_of K.z = codes "z"
word_of K.x = codes "x"
word_of K.IA = codes "IA"
word_of K.p = codes "p"
word_of K.U = codes "U"
word_of K.u = codes "u"
word_of K.Ia = codes "Ia"
word_of K.pa = codes "pa"
word_of K.O = codes "O"
word_of K.K = codes "K"
word_of K.J = codes "J"
word_of K.g = codes "g"
word_of K.Y = codes "Y"
word_of K.Z = codes "Z"
word_of K.G = codes "G"
word_of K.C = codes "C"
word_of K.l = codes "l"
word_of K.e = codes "e"
word_of K.lam = codes "lam"
word_of K.k = codes "k"
word_of K.y = codes "y"

abbrev pub second_of : ℕ → List ℕ
second_of j = if j == 0 then [] else codes "." ++ decimal j

-- the kind and the numbers, as b[2] or L[3.1]
abbrev pub text_of : Name → List ℕ
text_of name = word_of name.kind ++ codes "[" ++ decimal name.i ++ second_of name.j ++ codes "]"

-- the name of one number, and of two
abbrev pub one : NameKind → ℕ → Name
one kind i = record { kind = kind; i = i; j = 0 }

abbrev pub two : NameKind → ℕ → ℕ → Name
two kind i j = record { kind = kind; i = i; j = j }

-- a step whose refusal bears this name
abbrev pub named_as : {A : Type 0} → Name → Result A NumFault → Result A RowFault
named_as name step = told_as (λ _. Size name) step

-- a value by which is divided: refused under this name where zero lies in it
abbrev pub pivot_as : Name → Interval → Result Interval RowFault
pivot_as name v = if has_zero v then Err (Pivot name v) else Ok v
