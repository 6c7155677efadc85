use Rattle.naming.proofs.written.Written.+args_fault_expr_fault.Given as goal

abbrev pub decreases-args_fault : goal.decreases-args_fault
decreases-args_fault l = l.top

abbrev pub decreases-expr_fault : goal.decreases-expr_fault
decreases-expr_fault l = l.top
