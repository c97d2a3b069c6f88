use Rattle.std.proofs.Common.{◌*◌, ◌≤◌, mul-le-mul, arith}
use Rattle.search_cases.proofs.sought.Goals as goal

pub overflow_mul-result-2 : goal.overflow_mul-result-2
overflow_mul-result-2 c =
    let a = c.args in
    let twice : 2 * a.entries ≤ 131072 = omega arith in
    let few : a.j ≤ 999 = omega arith in
    let most : 2 * a.entries * a.j ≤ 131072 * 999 = mul-le-mul twice few in
    record { fits = omega arith }
